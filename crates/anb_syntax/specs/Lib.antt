pub mod Words
pub mod Lexing
pub mod Grammar
pub mod Levels
pub mod Text
pub mod Canon
pub mod Sizes
pub mod Views
pub mod Nexts
pub mod Laws
-- for proofs alone
pub mod Scanning
