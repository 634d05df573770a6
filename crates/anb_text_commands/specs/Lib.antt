pub mod Pages
pub mod TextCommands
