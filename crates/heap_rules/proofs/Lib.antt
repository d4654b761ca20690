pub mod Made
pub mod Written
