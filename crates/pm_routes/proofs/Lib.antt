pub mod Draws
pub mod Finds
pub mod Sums
pub mod Rooms
