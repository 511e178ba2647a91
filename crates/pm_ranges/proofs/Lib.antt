pub mod Covers
pub mod Grows
pub mod Laying
pub mod Parting
pub mod Windows
