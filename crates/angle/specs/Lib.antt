-- definitions, the second with the table's rule
pub mod Angle
pub mod Table
-- laws
pub mod Sign
pub mod Same
pub mod Ranks
-- theorems
pub mod Theorems
