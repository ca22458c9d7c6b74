-- definitions
pub mod Parts
pub mod Cursor
-- laws
pub mod Laws
pub mod Count
pub mod Accepted
pub mod Covers
pub mod Each
pub mod Kept
pub mod Started
-- theorems
pub mod Theorems
