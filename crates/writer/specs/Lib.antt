pub mod Packed
pub mod Written
pub mod Laws
pub mod Cases
