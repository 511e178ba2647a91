pub mod Links
pub mod Going
pub mod Written
