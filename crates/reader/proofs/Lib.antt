pub mod BlendLaws
pub mod AlikeLaws
pub mod ViewLaws
