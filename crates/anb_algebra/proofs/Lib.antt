pub mod Picks
pub mod Operators
