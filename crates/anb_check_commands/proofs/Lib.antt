pub mod Blinded
pub mod Choosing
pub mod Checked
pub mod Verdicts
pub mod Lacks
mod Parts
pub mod Values
