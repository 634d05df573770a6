pub mod Framed
pub mod Bodies
pub mod Following
pub mod Standing
mod Resting
