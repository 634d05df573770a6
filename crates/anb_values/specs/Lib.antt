pub mod Fit
pub mod Lines
-- for proofs alone
pub mod Reading
