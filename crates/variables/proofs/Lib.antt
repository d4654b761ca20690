pub mod VariableLaws
pub mod ValueLaws
