pub mod Rules
pub mod Operations
pub mod Evaluations
pub mod Asks
pub mod Same
