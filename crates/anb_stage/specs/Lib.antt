pub mod Children
pub mod Words
pub mod Relays
pub mod Notes
pub mod Memory
pub mod Due
pub mod Honest
-- for proofs alone
pub mod Sides
pub mod Steps
