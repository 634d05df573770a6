pub mod Changes
pub mod Rows
pub mod Tags
pub mod Words
pub mod Wrongs
pub mod Laws
