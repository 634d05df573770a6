pub mod Finding
pub mod Lines
pub mod Passed
pub mod Spotting
pub mod Unreadable
pub mod Weights
