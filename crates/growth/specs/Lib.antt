pub mod Growth
pub mod Progress
