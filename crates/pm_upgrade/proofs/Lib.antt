pub mod Inserts
pub mod Listed
pub mod Walked
pub mod NamedPlans
pub mod Again
pub mod SmallText
pub mod SmallRoots
pub mod SmallPlans
