pub mod Assumptions
pub mod Values
pub mod Trial
