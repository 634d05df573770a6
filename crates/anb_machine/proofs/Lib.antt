pub mod Works
pub mod Written
pub mod Unread
pub mod Lean
pub mod Gone
pub mod Verified
pub mod Steps
pub mod Turns
pub mod Sent
mod Resting
