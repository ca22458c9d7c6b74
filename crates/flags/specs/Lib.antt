-- definitions
pub mod Readings
pub mod Bytes
-- laws
pub mod Bits
pub mod Same
pub mod Class
pub mod Laws
-- theorems
pub mod Theorems
