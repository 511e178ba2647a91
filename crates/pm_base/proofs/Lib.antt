pub mod Boxes
pub mod Classes
pub mod Names
pub mod Orders
