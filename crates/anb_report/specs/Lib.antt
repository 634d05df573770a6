pub mod Looking
pub mod Noting
pub mod Remarks
pub mod Reporting
pub mod RoleCharts
pub mod Laws
-- for proofs alone
pub mod Collecting
pub mod News
