pub mod Shapes
pub mod Numbers
pub mod Sizes
