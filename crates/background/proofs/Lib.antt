pub mod LiteralLaws
pub mod OrderLaws
pub mod SaturatedLaws
pub mod RoundLaws
