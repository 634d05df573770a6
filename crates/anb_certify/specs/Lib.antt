-- what contracts name
pub mod Tied
pub mod Along
pub mod Certified
pub mod Statements
pub mod Classes
-- for proofs alone
pub mod Works
pub mod Numbered
pub mod Progress
pub mod Signs
pub mod Links
pub mod Falling
pub mod Walking
pub mod Tables
