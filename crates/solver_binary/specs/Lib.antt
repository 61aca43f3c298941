pub mod CriticalPointBinary
pub mod Rounds
