-- definitions
pub mod Layout
pub mod Vlr
-- laws
pub mod Places
pub mod Laws
pub mod Heads
-- theorems
pub mod Theorems
