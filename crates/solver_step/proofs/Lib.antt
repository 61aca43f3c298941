pub mod SpinodalLaw
pub mod DensityLaw
pub mod StableLaw
pub mod StoredBack
pub mod Ranges
