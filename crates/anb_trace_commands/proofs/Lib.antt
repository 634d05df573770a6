pub mod Asking
pub mod Coming
pub mod Due
pub mod Over
