pub mod FitLemmas
pub mod LineLemmas
pub mod Outcomes
pub mod Short
pub mod Sizes
pub mod Deciding
pub mod EachFits
