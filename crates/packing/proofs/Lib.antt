pub mod PackingLaws
pub mod Tags
pub mod ViewLaws
pub mod CongruenceLaws
