pub mod Reading
pub mod Suites
-- for proofs alone
pub mod Walks
pub mod Sparing
