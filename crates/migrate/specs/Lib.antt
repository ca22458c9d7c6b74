-- definitions
pub mod Migrate
pub mod Steps
-- laws
pub mod Way
pub mod Moved
pub mod Laws
pub mod Told
pub mod Front
pub mod Done
pub mod New
pub mod Again
pub mod Answer
pub mod Back
pub mod Exact
pub mod Never
pub mod Found
-- theorems
pub mod Theorems
