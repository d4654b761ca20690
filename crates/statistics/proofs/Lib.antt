-- What is proved of the specification of the figures.
pub mod Computed
pub mod LowestTerms
pub mod Variance
pub mod ReplyShapes
pub mod Nights
