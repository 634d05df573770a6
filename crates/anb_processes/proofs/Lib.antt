mod Zeros
mod Fresh
