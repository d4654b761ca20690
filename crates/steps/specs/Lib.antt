pub mod Reading
pub mod Checks
pub mod Asking
pub mod Inference
