pub mod Trials
pub mod Plans
pub mod Values
pub mod Talks
pub mod Laws
pub mod Memory
-- for proofs alone
pub mod Steps
