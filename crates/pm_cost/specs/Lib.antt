pub mod Costs
pub mod Spending
pub mod Weights
pub mod Falls
pub mod Straight
