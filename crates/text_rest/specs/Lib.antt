-- definitions
pub mod Rest
-- laws
pub mod Laws
-- theorems
pub mod Theorems
