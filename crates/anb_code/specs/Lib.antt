pub mod CodeValue
pub mod RawValue
pub mod Registers
pub mod Spelling
pub mod Uses
pub mod Table
pub mod Verified
pub mod Taking
pub mod Meaning
pub mod Laws
-- for proofs alone
pub mod Checking
