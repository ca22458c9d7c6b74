-- definitions
pub mod Sheet
pub mod Fold
-- laws
pub mod Laws
pub mod Steps
pub mod Folded
pub mod Exact
pub mod Ordering
-- theorems
pub mod Theorems
