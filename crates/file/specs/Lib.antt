-- definitions: the rules in their order, as one conjunction, the format of the points, and which files have waveform packets; the last three with laws of them
pub mod Rules
pub mod Holds
pub mod Points
pub mod Waveform
-- laws
pub mod Laws
pub mod Counts
pub mod Room
-- theorems
pub mod Theorems
pub mod Opened
-- laws of accepted files, by the theorems
pub mod Kept
