pub mod Completing
pub mod Holding
pub mod Placeless
pub mod Asked
pub mod Recorded
pub mod Replayed
pub mod Arms
pub mod Hosted
