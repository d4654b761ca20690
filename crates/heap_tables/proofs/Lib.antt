pub mod ScanLaws
pub mod TableLaws
pub mod HeapLaws
pub mod OrderLaws
