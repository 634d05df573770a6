pub mod ValuesCommand
pub mod RoleValuesCommand
