pub mod StateLaw
pub mod Ranges
pub mod Stepped
