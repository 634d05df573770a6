pub mod Bytes
pub mod Scanned
pub mod Laying
pub mod Unique
pub mod LiteralTokens
pub mod Relexed
pub mod Printed
pub mod Names
