pub mod Entries
pub mod Sessions
pub mod Keeps
pub mod Laws
-- for proofs alone
pub mod Following
