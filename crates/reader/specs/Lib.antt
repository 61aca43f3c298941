pub mod Refusals
pub mod View
pub mod Reading
pub mod Alike
