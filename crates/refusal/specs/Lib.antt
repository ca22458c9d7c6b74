-- definitions
pub mod Refused
pub mod Table
-- laws
pub mod Laws
