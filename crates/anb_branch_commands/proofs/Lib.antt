pub mod Seats
pub mod Tasks
pub mod Preparing
pub mod Completing
pub mod Straight
pub mod Played
