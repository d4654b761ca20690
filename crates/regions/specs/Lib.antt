pub mod Masks
pub mod Shown
