-- definitions
pub mod Write
pub mod Held
-- laws
pub mod Laws
pub mod Taken
pub mod Octets
pub mod Answered
pub mod Back
pub mod Found
pub mod Again
pub mod Past
pub mod Accepted
-- theorems
pub mod Theorems
