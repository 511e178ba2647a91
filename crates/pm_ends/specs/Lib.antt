pub mod Numbers
pub mod Ends
pub mod Sides
pub mod Trees
pub mod Wires
