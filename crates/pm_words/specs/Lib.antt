pub mod Line
pub mod Ranges
pub mod Rows
pub mod Usual
pub mod Words
