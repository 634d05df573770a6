pub mod Checks
pub mod Statements
pub mod Chosen
-- for proofs alone
pub mod Facts
