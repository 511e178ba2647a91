pub mod Journals
pub mod Scans
pub mod Stories
pub mod Merged
