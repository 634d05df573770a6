pub mod Growing
pub mod Registers
pub mod Plays
pub mod There
pub mod Runs
pub mod Grows
pub mod Exec
pub mod Honest
mod HonestPlays
pub mod Reaching
