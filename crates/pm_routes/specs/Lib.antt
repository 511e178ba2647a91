pub mod Laid
pub mod Routings
pub mod Sample
