pub mod Streams
pub mod Primitives
pub mod Laws
