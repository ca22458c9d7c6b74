-- definitions
pub mod Run
pub mod Demand
-- laws
pub mod Asked
pub mod Laws
pub mod Told
pub mod Each
pub mod Exact
pub mod Found
pub mod Back
pub mod Agree
-- theorems
pub mod Theorems
