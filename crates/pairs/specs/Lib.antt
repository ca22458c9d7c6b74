-- definitions
pub mod Pairs
-- laws
pub mod Paired
pub mod Sound
