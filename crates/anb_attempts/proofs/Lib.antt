pub mod Tests
pub mod Turns
pub mod Adding
pub mod Standing
mod Having
