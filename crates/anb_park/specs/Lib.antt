pub mod Lives
pub mod Records
pub mod Resting
pub mod Going
-- for proofs alone
pub mod Inside
