pub mod Commands
pub mod Stages
pub mod Stores
pub mod Recordings
pub mod Programs
pub mod Sessions
pub mod Stagings
