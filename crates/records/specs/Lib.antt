pub mod Outcome
pub mod Record
pub mod Span
pub mod Answered
pub mod Demand2
pub mod Statuses
pub mod NotFinite
