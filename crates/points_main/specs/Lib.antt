-- definitions
pub mod Walked
