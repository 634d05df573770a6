pub mod Alone
pub mod HostFrames
pub mod Hosts
pub mod Own
pub mod Serving
-- for proofs alone
pub mod Inside
pub mod Runs
pub mod Turns
