pub mod Ops
pub mod Sign
pub mod Above
pub mod Root
pub mod Nearest
pub mod Ln
pub mod Parted
