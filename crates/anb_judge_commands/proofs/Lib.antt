mod Reading
mod Outcomes
