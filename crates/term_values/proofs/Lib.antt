pub mod RowLaws
pub mod CopyLaws
pub mod ViewLaws
pub mod OperationLaws
pub mod LiteralLaws
