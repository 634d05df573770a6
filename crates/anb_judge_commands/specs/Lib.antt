pub mod JudgeCommand
-- for proofs alone
pub mod Tasks
