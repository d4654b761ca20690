pub mod SignatureLaws
pub mod AlikeLaws
