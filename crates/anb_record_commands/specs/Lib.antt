pub mod Words
pub mod Names
pub mod Outcomes
pub mod PlayInto
pub mod EnactInto
pub mod BranchInto
pub mod HostInto
pub mod Laws
pub mod Asking
-- for proofs alone
pub mod Running
