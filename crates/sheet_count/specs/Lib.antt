-- definitions
pub mod Count
pub mod File
-- laws
pub mod Laws
pub mod Read
pub mod Totals
pub mod Spans
-- theorems
pub mod Theorems
