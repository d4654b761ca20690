-- What is proved of the evaluator's specification.
pub mod Decision
pub mod Begins
pub mod FilesRead
pub mod Passable
pub mod FactLines
pub mod Finding
pub mod HeapSaid
pub mod ClauseLines
pub mod Evaluated
pub mod StepPrefix
pub mod AllTrueTold
pub mod Computed
pub mod Loops
pub mod Ordered
pub mod FormatComplete
pub mod DigitLimit
