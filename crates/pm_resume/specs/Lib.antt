pub mod Cuts
pub mod Reached
pub mod Rows
