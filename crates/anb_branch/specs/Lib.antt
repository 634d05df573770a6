pub mod Arms
pub mod Taken
pub mod Laws
pub mod Recorded
pub mod Stems
-- for proofs alone
pub mod Signs
pub mod Choices
