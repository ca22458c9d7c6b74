-- definitions
pub mod Layout
-- laws
pub mod Placed
-- theorems
pub mod Theorems
