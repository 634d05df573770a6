pub mod CheckCommand
pub mod ChoiceLines
pub mod CheckValues
pub mod Laws
-- for proofs alone
pub mod Telling
