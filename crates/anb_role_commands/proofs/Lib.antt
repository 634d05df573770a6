pub mod Completing
pub mod Draws
pub mod Enacting
pub mod Preparing
pub mod Replaying
pub mod Tasks
