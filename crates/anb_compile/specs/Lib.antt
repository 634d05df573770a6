pub mod Fitting
pub mod Unsent
pub mod Counted
pub mod Registers
pub mod Laws
pub mod Emitting
pub mod RoleCodes
pub mod Valued
pub mod Verifying
-- for proofs alone
pub mod Sharing
pub mod Writing
pub mod Once
pub mod Refusing
