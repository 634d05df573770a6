pub mod Making
pub mod Reaching
pub mod Texts
pub mod Laws
-- for proofs alone
pub mod Steps
