pub mod Equations
pub mod Finding
pub mod Apart
pub mod Laws
