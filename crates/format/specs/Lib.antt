-- definitions
pub mod Format
pub mod Fields
pub mod Codes
-- laws
pub mod Length
pub mod Laws
pub mod Each
pub mod Attributes
-- theorems
pub mod Theorems
