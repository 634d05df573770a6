pub mod Fields
pub mod Formats
pub mod Laws
pub mod Literals
pub mod Reading
pub mod Widths
