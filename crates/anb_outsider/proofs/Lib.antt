mod Others
mod Ends
mod Firsts
mod Drawn
mod Stops
mod GoingOn
