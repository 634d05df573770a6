pub mod Certified
pub mod Compiled
pub mod Narrow
