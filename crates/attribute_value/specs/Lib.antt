-- definitions
pub mod Value
pub mod Many
-- laws
pub mod Laws
pub mod InFile
pub mod Filled
-- theorems
pub mod Theorems
