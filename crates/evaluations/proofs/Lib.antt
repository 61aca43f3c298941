pub mod Evaluations
pub mod CriticalCong
pub mod CriticalLaws
pub mod One
pub mod OneComponent
