pub mod Forms
pub mod Places
pub mod Scenarios
pub mod Samples
pub mod Strangers
pub mod Fewness
