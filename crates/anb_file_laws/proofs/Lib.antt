pub mod Compiled
pub mod Narrow
