pub mod Lists
pub mod Sizes
pub mod ReadLaws
pub mod InteractionLaws
pub mod PairLaws
pub mod NumberLaws
pub mod SameBytes
pub mod NearOne
