pub mod Children
pub mod Trials
