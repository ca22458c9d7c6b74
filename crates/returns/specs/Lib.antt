-- definitions
pub mod Returns
-- laws
pub mod Laws
-- theorems
pub mod Theorems
