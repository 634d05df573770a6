pub mod Each
pub mod Spellable
pub mod Growing
pub mod Alternating
pub mod Small
pub mod Short
