pub mod Inner
pub mod Retagging
pub mod Attempts
-- for proofs alone
pub mod Parts
pub mod Differing
