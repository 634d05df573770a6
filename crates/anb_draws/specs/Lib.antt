pub mod Draws
pub mod Laws
-- for proofs alone
pub mod Telling
