-- definitions
pub mod Front
-- laws
pub mod Laws
pub mod Records
