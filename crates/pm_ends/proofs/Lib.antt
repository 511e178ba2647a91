pub mod Lists
pub mod Laws
mod Held
mod Trees
mod Wirings
