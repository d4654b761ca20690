pub mod KeyLaws
pub mod Ranges
pub mod WordChecks
pub mod LineChecks
pub mod Reached
