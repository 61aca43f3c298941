pub mod Linear
pub mod SmallestEv
