pub mod Lowest
pub mod Calm
pub mod Phases
pub mod Samples
