-- definitions
pub mod Table
-- laws
pub mod Laws
-- theorems
pub mod Theorems
