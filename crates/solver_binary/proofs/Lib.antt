pub mod Newton
pub mod Settles
pub mod Spans
pub mod Rule
