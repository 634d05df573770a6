pub mod BranchCommand
pub mod BranchJobs
pub mod Laws
pub mod Arming
