pub mod Words
pub mod Order
pub mod Joint
pub mod Honest
pub mod Laws
-- for proofs alone
pub mod Kinds
pub mod Given
pub mod Acting
pub mod Inside
