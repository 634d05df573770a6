pub mod Asking
pub mod Ended
pub mod Coming
pub mod Company
pub mod Lined
pub mod Over
