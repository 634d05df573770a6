pub mod Each
pub mod Items
pub mod Searching
pub mod Bools
pub mod Numbers
pub mod Options
pub mod Results
pub mod Lists
