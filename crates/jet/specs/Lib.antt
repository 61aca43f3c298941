pub mod Positions
pub mod Coefficients
pub mod Ops
