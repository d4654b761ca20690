pub mod Sums
pub mod Lines
