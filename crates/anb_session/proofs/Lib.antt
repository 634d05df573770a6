pub mod Answered
pub mod Continued
pub mod Faults
pub mod Prompt
pub mod Turning
pub mod Written
pub mod Standing
