pub mod Norms
pub mod Rows2
pub mod Rows3
pub mod Eigenvectors
