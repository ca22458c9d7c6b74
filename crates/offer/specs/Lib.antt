-- definitions
pub mod Offer
pub mod Steps
-- laws
pub mod Laws
pub mod Sweeps
pub mod Tail
