mod Usage
mod Idle
mod Testing
mod Following
mod Staged
