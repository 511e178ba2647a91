pub mod Clps
pub mod First
pub mod Kept
pub mod Laid
pub mod Sample
pub mod Sizes
pub mod Takes
pub mod Views
