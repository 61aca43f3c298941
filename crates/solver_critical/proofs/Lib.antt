pub mod Spans
pub mod Settles
pub mod Runs
pub mod Rule
pub mod Scaled
