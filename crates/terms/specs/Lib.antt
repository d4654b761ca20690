pub mod Arrays
pub mod Lines
