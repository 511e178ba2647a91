pub mod Turns
pub mod Shares
pub mod Epochs
pub mod Posts
pub mod Seats
pub mod Prefixes
