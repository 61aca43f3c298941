pub mod Spans
pub mod Kinds
pub mod Schedule
pub mod History
pub mod Refusals
pub mod Quoted
