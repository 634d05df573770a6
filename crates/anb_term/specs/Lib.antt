-- what contracts name
pub mod Operator
pub mod Tree
pub mod View
pub mod Value
pub mod RecipeView
pub mod Lawful
pub mod FreeAlgebra
pub mod Agree
pub mod Composes
pub mod Demand
pub mod Statements
-- what only proofs use
pub mod TreeCode
pub mod TreeSame
pub mod Falls
pub mod FreeLawful
