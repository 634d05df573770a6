pub mod Expected
pub mod Laws
pub mod Refusals
-- for proofs alone
pub mod Expecting
pub mod Places
pub mod Productions
pub mod Trees
pub mod Tellings
