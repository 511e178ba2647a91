pub mod Examples
pub mod Entries
pub mod Hits
pub mod Runs
pub mod Traces
