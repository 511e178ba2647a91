pub mod Staying
pub mod Going
pub mod Working
pub mod Sending
pub mod Closing
pub mod Writing
