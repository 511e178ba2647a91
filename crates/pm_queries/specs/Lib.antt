pub mod Queries
pub mod Laid
pub mod Registering
