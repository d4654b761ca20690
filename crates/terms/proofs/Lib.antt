pub mod LineLaws
pub mod GrowthLaws
