-- definitions
pub mod NamedAt
pub mod Attributes
pub mod Find
pub mod Each
pub mod Exact
-- laws
pub mod Laws
pub mod Ready
pub mod Told
pub mod Named
pub mod Turn
-- theorems
pub mod Theorems
