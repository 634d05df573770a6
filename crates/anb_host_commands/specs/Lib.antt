pub mod HostCommand
pub mod Serving
