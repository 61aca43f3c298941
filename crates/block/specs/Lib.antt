pub mod Lists
pub mod Pairs
pub mod Numbers
pub mod Blend
pub mod Checks
pub mod SameBytes
pub mod NearOne
