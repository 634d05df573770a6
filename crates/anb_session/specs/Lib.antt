pub mod Sessions
pub mod Faults
pub mod Standing
pub mod Turns
