-- definitions
pub mod Back
pub mod Rewritten
-- laws
pub mod Asked
pub mod Laws
pub mod Pair
pub mod Whole
pub mod Sound
-- theorems
pub mod Theorems
