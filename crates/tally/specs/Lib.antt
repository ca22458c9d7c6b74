-- definitions
pub mod Tally
-- laws
pub mod Laws
