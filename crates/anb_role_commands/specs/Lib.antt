pub mod Completions
pub mod EnactCommand
pub mod Jobs
pub mod PlayCommand
pub mod ReplayCommand
pub mod Comparing
pub mod Playing
