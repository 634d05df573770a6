pub mod Drill
pub mod Turns
pub mod Counts
pub mod Laws
