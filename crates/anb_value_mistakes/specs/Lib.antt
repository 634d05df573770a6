pub mod Classes
pub mod Diagnosis
pub mod Laws
pub mod Mistakes
pub mod Reading
pub mod Wording
