pub mod Journals
pub mod Lines
pub mod Recordings
pub mod Laws
pub mod Following
pub mod Joining
