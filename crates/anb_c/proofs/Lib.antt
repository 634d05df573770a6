pub mod Values
mod Owning
mod Turning
mod Begun
mod Sending
mod Reading
