pub mod Alone
pub mod JobLaws
