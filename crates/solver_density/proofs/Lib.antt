pub mod Spans
pub mod Rule
pub mod Settles
pub mod Runs
pub mod EqualPotentials
