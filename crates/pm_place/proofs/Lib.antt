pub mod Dots
pub mod Lean
pub mod Told
pub mod Grown
pub mod Noted
pub mod Costs
pub mod Worked
pub mod Lines
