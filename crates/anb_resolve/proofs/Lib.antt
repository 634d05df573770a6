pub mod AtomNames
pub mod WidthGrowth
pub mod Small
