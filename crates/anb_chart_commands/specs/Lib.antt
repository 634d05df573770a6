pub mod ChoiceCharts
pub mod ReportCommands
-- for proofs alone
pub mod Views
