pub mod ByteRuns
pub mod Machines
pub mod Laws
pub mod Resting
pub mod Standing
pub mod Works
-- for proofs alone
pub mod Inside
pub mod Keeping
