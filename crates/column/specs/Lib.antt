-- definitions
pub mod Column
pub mod Exact
-- laws
pub mod Fill
pub mod Stretch
pub mod Told
-- theorems
pub mod Theorems
