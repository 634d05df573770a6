mod Behind
mod Casting
mod Lists
mod Scenes
pub mod Outcomes
pub mod Answering
pub mod Logged
pub mod Kept
pub mod Told
pub mod Carried
