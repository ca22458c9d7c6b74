-- definitions
pub mod Run
pub mod Judge
-- laws
pub mod Laws
