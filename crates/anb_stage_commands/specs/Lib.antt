pub mod Words
pub mod CastRoles
pub mod Scenes
pub mod Reports
pub mod StageCommand
pub mod Records
pub mod StageInto
pub mod Asking
-- for proofs alone
pub mod Relaying
pub mod Telling
pub mod Keeping
