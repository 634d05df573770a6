pub mod Participants
pub mod Charts
pub mod Laws
-- for tests alone
pub mod Examples
