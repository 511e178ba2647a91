pub mod Headed
pub mod Heads
pub mod Inner
pub mod Links
