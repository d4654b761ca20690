pub mod Pieces
pub mod OnePass
pub mod Letters
pub mod PackedWord
pub mod FileSteps
pub mod Bytes
