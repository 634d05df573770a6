pub mod Firsts
pub mod Ranges
pub mod Waiting
