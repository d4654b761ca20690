pub mod Chains
pub mod Denials
