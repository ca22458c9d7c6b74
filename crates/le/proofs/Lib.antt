pub mod Twos
pub mod Nans
