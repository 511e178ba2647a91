pub mod Drafts
pub mod Documents
pub mod Rows
pub mod Tables
