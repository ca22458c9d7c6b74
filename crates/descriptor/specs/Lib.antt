-- definitions
pub mod Layout
pub mod Sizes
pub mod Descriptor
-- laws
pub mod Places
pub mod Laws
pub mod Written
pub mod Back
pub mod Cut
-- theorems
pub mod Theorems
