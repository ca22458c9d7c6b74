-- definitions
pub mod Table
-- laws
pub mod Laws
pub mod Total
