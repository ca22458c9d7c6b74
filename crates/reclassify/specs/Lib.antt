-- definitions
pub mod Reclassify
pub mod Afresh
-- laws
pub mod Laws
pub mod Points
pub mod Kept
pub mod Readings
pub mod Back
-- theorems
pub mod Theorems
