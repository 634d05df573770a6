pub mod Texts
-- for proofs alone
pub mod Seeds
