-- definitions
pub mod Found
pub mod Answer
pub mod Broken
-- laws
pub mod Laws
pub mod Inside
pub mod Answered
pub mod Exactly
pub mod Order
pub mod Refused
-- theorems
pub mod Theorems
