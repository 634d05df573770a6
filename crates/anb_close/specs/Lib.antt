pub mod Closed
pub mod Rows
pub mod MadeView
pub mod MadeFalls
pub mod Entries
pub mod Recipes
pub mod Listed
-- for proofs alone
pub mod Standings
pub mod Parents
pub mod Spreading
pub mod Joined
