pub mod Words
pub mod SessionCommand
pub mod Asking
