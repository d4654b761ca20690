pub mod AssumptionLaws
pub mod Assumed
pub mod ValueLaws
pub mod TrialLaws
pub mod FileLaws
pub mod CallLaws
pub mod Searches
pub mod DisjunctionLaws
