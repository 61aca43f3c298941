pub mod CriticalPoint
pub mod Spinodal
pub mod Rounds
pub mod NotFinite
