pub mod Fractions
pub mod LnNear
