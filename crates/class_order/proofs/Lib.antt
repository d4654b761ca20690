pub mod BranchLaws
pub mod WordLaws
pub mod RowLaws
pub mod FillLaws
