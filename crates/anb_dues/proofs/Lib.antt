pub mod Firsts
pub mod Beginning
pub mod Saying
mod Sending
mod Counting
pub mod Speaking
pub mod Naming
mod Alike
mod Labels
pub mod Stopping
pub mod Working
pub mod Lines
mod Stopped
mod Replacing
mod Knowing
mod Unrefused
pub mod Comparing
pub mod Checks
mod Opening
mod Within
pub mod Suites
pub mod Grounding
mod Narrating
mod Values
