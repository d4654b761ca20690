pub mod NumberLaws
pub mod ChainLaws
pub mod EntryLaws
pub mod GrowthLaws
