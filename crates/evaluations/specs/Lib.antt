pub mod Residual
pub mod Critical
pub mod CriticalBinary
pub mod Entries
pub mod OneComponent
