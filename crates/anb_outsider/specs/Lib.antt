pub mod Recordings
pub mod Texts
pub mod Laws
-- for proofs alone
pub mod Searching
