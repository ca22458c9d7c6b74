-- definitions
pub mod KeyValue
pub mod Keys
pub mod Exact
-- laws
pub mod Told
-- theorems
pub mod Theorems
