-- definitions
pub mod Span
pub mod First
-- laws
pub mod Laws
-- theorems
pub mod Theorems
