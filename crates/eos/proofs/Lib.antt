pub mod Folds
pub mod Totals
pub mod Energy
pub mod Pair
pub mod Chain
pub mod Roots
