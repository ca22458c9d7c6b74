-- definitions
pub mod Fit
pub mod Upgrade
pub mod Shown
-- laws
pub mod Made
pub mod Laws
pub mod Whole
pub mod First
pub mod Named
pub mod Back
pub mod Record
-- theorems
pub mod Theorems
