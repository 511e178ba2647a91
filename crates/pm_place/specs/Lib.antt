pub mod Accesses
pub mod Bests
pub mod Examples
pub mod Placings
pub mod Tallies
pub mod Texts
