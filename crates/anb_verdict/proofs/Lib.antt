mod Over
mod Ahead
mod Tests
mod Exact
mod Parts
