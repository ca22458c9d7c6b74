-- definitions
pub mod Extents
pub mod Steps
