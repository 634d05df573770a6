pub mod ByteMeaning
pub mod ByteLawful
-- for proofs alone
pub mod AlgebraValue
