pub mod Parting
pub mod ComingOut
pub mod Locking
pub mod Telling
pub mod Sends
pub mod Having
pub mod Showing
pub mod Written
