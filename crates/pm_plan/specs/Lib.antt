pub mod Directories
pub mod Limits
pub mod Numbers
pub mod Plans
pub mod Trees
pub mod Rows
