pub mod BinaryLaw
pub mod StoredBack
pub mod Ranges
