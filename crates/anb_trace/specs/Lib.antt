pub mod Misfits
pub mod Openers
pub mod Arrivals
pub mod Differences
pub mod Words
pub mod Traces
pub mod Saying
pub mod Laws
-- for proofs alone
pub mod Passing
pub mod Tracing
pub mod Trying
pub mod Inside
