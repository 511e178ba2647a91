pub mod Illegal
pub mod Cases
