pub mod Nodes
pub mod Putting
mod Equality
