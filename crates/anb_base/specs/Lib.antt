pub mod Bytes
pub mod Files
pub mod Memory
pub mod MemoryViews
pub mod Moves
pub mod Places
pub mod Wires
