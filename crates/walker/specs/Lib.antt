-- definitions
pub mod Begin
pub mod Walk
-- laws
pub mod Laws
pub mod Steps
pub mod Accepted
pub mod Nearer
-- theorems
pub mod Theorems
