pub mod QuarterLaws
