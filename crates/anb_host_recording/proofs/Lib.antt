mod Transcribing
pub mod Filing
mod Putting
mod Keeping
pub mod Plain
