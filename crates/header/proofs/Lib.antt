pub mod Text
pub mod Extent
