-- definitions
pub mod NotAccepted
pub mod Rules
pub mod Steps
-- laws
pub mod First
pub mod Records
pub mod Laws
