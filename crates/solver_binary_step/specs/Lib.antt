pub mod BinaryStep
pub mod Stored
