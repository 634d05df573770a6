pub mod Shut
pub mod Reach
pub mod Decided
pub mod Flags
-- for proofs alone
pub mod Found
pub mod Stuck
