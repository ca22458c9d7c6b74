pub mod Bits
pub mod Wide
pub mod Held
pub mod Fields
pub mod Whole
