pub mod Parts
pub mod Opened
pub mod Origins
pub mod Roots
pub mod Lacking
pub mod Laws
-- for proofs alone
pub mod Before
pub mod Held
pub mod Listing
pub mod Rooted
pub mod Rows
