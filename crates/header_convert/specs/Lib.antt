-- definitions
pub mod Turned
pub mod Steps
-- laws
pub mod Lists
pub mod Is
pub mod Goes
pub mod Told
pub mod Back
pub mod Readable
