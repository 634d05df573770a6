pub mod Loops
pub mod Lines
pub mod Terms
