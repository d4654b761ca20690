pub mod Results
pub mod TermLines
pub mod LiteralLines
pub mod AssumptionLines
pub mod ClauseLines
pub mod StepLines
pub mod AnyLine
