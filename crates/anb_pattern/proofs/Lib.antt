pub mod Standing
pub mod Counting
pub mod Same
pub mod Ending
