pub mod Sessions
pub mod Opening
pub mod Compiling
pub mod Statuses
-- for proofs alone
pub mod Holding
pub mod Turning
