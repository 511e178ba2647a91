pub mod Progresses
pub mod Queues
