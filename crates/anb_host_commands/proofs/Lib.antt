pub mod Alike
pub mod Completing
pub mod Ending
pub mod Reached
pub mod Serving
pub mod Sessions
pub mod Sizes
