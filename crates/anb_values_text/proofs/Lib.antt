pub mod LineOf
pub mod Found
pub mod Again
pub mod Appending
