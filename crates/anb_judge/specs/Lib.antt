pub mod Observed
pub mod Laws
pub mod Verdicts
-- for proofs alone
pub mod Observers
