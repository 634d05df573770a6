mod Labels
mod Lines
mod Stepping
mod Going
mod Playing
mod Formed
mod Hearing
