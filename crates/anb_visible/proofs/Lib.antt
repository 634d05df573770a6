mod Clean
mod Runs
mod Walking
