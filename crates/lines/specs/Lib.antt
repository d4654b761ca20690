pub mod Lines
pub mod ByteSteps
