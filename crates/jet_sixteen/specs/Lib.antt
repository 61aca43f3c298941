pub mod Sixteen
pub mod Evaluations
pub mod Same
