pub mod Putting
pub mod Seeing
pub mod Observing
mod Played
mod SeenPlans
pub mod Begun
pub mod SeenPlays
