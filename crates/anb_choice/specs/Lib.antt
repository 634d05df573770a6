pub mod Lawful
pub mod Views
pub mod Order
pub mod Branching
pub mod Laws
-- for proofs alone
pub mod ArmRefusals
pub mod Standing
pub mod Parsing
