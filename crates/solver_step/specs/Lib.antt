pub mod Phase
pub mod SpinodalStep
pub mod DensityStep
pub mod StableStep
pub mod Stored
