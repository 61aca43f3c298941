pub mod Decimals
pub mod Answer
pub mod Search
pub mod Evaluated
pub mod Stored
pub mod Rounds
