pub mod Substitutions
pub mod Equations
pub mod Views
pub mod Growing
-- for proofs alone
pub mod Classes
pub mod Reading
pub mod Solving
