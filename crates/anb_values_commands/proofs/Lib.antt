mod Telling
mod Drawn
pub mod Owned
mod Labels
mod Counting
mod DrawnValues
