pub mod Lines
pub mod RoleFiles
pub mod Refusals
pub mod Laws
pub mod Writing
pub mod Reading
pub mod Stages
