pub mod Keys
pub mod Reading
