-- definitions
pub mod Rows
