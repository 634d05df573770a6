pub mod Lists
pub mod Steps
pub mod Values
pub mod Frames
pub mod Demands
pub mod Related
pub mod Every
mod NewAtom
mod Translate
pub mod Places
mod RecipeViews
mod Picking
mod Parts
