pub mod Along
mod Next
pub mod Framed
pub mod Placed
pub mod Stopping
pub mod Passing
mod Telling
mod Short
pub mod Refusing
pub mod Narrated
