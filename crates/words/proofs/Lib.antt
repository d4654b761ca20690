pub mod TableLaws
pub mod PackedWords
