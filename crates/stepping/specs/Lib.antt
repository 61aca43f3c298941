pub mod Stepping
pub mod States
pub mod Storable
pub mod Laws
