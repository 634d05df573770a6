pub mod ChartLines
pub mod Charted
pub mod Parting
pub mod RoleCharted
