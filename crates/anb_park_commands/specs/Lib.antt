pub mod Identities
pub mod Keys
pub mod Laws
pub mod ParkCommand
pub mod Parking
pub mod Records
pub mod ResumeCommand
pub mod Sessions
pub mod Splits
pub mod Words
pub mod Asking
-- for proofs alone
pub mod Going
