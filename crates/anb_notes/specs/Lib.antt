pub mod Standing
pub mod Places
pub mod Notes
pub mod Idle
-- for proofs alone
pub mod Tables
