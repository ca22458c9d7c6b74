-- definitions
pub mod Numbers
