pub mod Counts
pub mod Runs
pub mod Engines
pub mod Courses
