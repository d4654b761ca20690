pub mod Array
pub mod Blocks
