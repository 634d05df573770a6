pub mod Xored
pub mod Words
pub mod Macs
pub mod Closed
pub mod Masked
pub mod ByteLemmas
pub mod SealLemmas
