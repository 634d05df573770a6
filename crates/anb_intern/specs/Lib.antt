pub mod Nodes
-- for proofs alone
pub mod Pools
