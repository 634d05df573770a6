pub mod Dues
pub mod FirstLine
pub mod OneReading
pub mod OneReplay
pub mod Reached
pub mod ReadLines
