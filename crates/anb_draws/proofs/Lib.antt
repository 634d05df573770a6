mod Taking
mod Events
mod Plans
mod Among
mod Walking
mod Known
mod Told
