pub mod ReplyLines
pub mod Fractions
pub mod Figures
pub mod Claims
pub mod Cases
