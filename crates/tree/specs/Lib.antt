pub mod State
pub mod Change
