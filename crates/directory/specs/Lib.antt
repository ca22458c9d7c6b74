-- definitions
pub mod Directory
-- laws
pub mod Laws
pub mod Order
