pub mod Steps
pub mod Openings
pub mod Laws
-- for proofs alone
pub mod Walks
