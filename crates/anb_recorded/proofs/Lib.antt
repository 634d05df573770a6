pub mod Completing
pub mod Holding
pub mod Telling
