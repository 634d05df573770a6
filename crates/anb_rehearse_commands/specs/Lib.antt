pub mod Reports
pub mod Rehearsals
pub mod RehearseCommand
pub mod DrillCommand
-- for proofs alone
pub mod Telling
