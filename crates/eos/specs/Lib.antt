pub mod Indices
pub mod Jets
pub mod Cubic
pub mod Helmholtz
