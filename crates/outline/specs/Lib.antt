-- definitions, with laws of them
pub mod Outline
