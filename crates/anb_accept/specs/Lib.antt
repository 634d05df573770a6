pub mod Taking
pub mod Patterns
pub mod Numbering
pub mod Parts
pub mod Roles
pub mod Conversations
pub mod Laws
pub mod Events
-- for proofs alone
pub mod Equations
pub mod Renaming
