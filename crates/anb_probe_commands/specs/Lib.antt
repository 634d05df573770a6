pub mod Words
pub mod Asking
pub mod Probings
pub mod Cases
pub mod Frames
pub mod Reports
pub mod Plays
pub mod ProbeCommand
pub mod Records
pub mod ProbeInto
-- for proofs alone
pub mod Tasks
pub mod Playing
pub mod Keeping
