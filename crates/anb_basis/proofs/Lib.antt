mod FromFacts
mod Chosen
mod Enough
mod Meeting
mod Worths
mod Sound
mod Comparing
pub mod Marks
mod All
mod Ordering
mod Frames
pub mod Exact
mod Listing
mod Again
