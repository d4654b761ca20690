pub mod MaskLaws
pub mod RowLaws
pub mod MaskMeaning
pub mod RowMeaning
pub mod LiteralLaws
