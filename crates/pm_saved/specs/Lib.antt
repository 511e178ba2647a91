pub mod Inner
pub mod Laws
pub mod Sample
pub mod Searches
pub mod Senses
pub mod Spots
pub mod Steps
pub mod View
