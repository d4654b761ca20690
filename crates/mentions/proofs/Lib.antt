pub mod BitLaws
pub mod MentionLaws
pub mod RowLaws
pub mod GrowthLaws
