pub mod Spans
pub mod Turns
pub mod Runs
pub mod Steps
pub mod Rule
pub mod StoredBack
pub mod Ranges
