-- definitions
pub mod Append
-- laws
pub mod Adding
pub mod Final
pub mod Again
pub mod Points
pub mod Cut
-- theorems
pub mod Theorems
