-- definitions
pub mod Rules
-- definitions, with laws of them
pub mod Told
