pub mod Turns
pub mod QueueLaws
pub mod Running
pub mod Steps
