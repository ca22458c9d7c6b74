-- definitions
pub mod Bytes
pub mod Wrote
pub mod Readable
-- laws
pub mod Table
pub mod Back
pub mod Round
pub mod Reads
pub mod Reread
-- theorems
pub mod Theorems
