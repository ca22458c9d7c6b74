-- definitions
pub mod Written
pub mod Exact
-- laws
pub mod Laws
pub mod Back
-- theorems
pub mod Theorems
