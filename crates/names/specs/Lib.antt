-- definitions
pub mod Names
-- laws
pub mod Laws
pub mod Bytes
