-- definitions
pub mod Window
-- laws
pub mod Laws
pub mod Parts
pub mod Elsewhere
