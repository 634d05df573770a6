pub mod Noting
pub mod Reading
pub mod Remembering
pub mod Replaying
