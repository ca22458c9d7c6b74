-- definitions
pub mod Xyz
-- laws
pub mod Laws
-- theorems
pub mod Theorems
