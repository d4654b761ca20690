pub mod Verdict
pub mod Line
