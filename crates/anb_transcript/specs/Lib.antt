pub mod Replays
pub mod Texts
pub mod Turns

-- for proofs alone
