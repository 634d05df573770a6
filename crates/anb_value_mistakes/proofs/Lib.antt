mod Alone
mod Lines
mod Characters
pub mod Exact
