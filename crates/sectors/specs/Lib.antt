-- definitions
pub mod Sector
pub mod Sectors
-- laws
pub mod Header
pub mod Laws
pub mod After
