-- definitions
pub mod Whole
pub mod Kinds
pub mod Layout
pub mod Header
pub mod Judged
-- laws
pub mod Window
pub mod Laws
pub mod Answers
pub mod Minor
pub mod Values
-- a header after points were added to its file, with laws of it
pub mod Updated
-- theorems
pub mod Theorems
