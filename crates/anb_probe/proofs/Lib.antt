pub mod Dropping
pub mod Valued
pub mod Following
pub mod InPlace
