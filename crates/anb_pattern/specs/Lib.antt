pub mod Variables
pub mod Taken
pub mod Counts
