-- definitions
pub mod Read
pub mod Marks
-- laws
pub mod Kind
pub mod Answer
pub mod Class
-- theorems
pub mod Theorems
