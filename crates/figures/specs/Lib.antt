pub mod Totals
pub mod Night
