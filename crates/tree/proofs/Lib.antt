pub mod Arrays
pub mod Branch
pub mod BranchLaws
pub mod Waiting
pub mod Changes
