pub mod TraceCommand
-- for proofs alone
pub mod Tracing
