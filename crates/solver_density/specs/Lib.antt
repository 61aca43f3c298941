pub mod Spinodal
pub mod Density
pub mod Stable
pub mod Rounds
pub mod NotFinite
pub mod Ways
