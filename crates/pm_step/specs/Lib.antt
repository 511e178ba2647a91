pub mod Arithmetic
pub mod Expressions
pub mod Sample
pub mod Steps
pub mod Writes
