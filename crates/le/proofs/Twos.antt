-- The bits of a signed number, at every width. Assumes nothing.
use mathlib.Core.Path.{◌≡◌}
use Prim.Native.Nat.{◌^◌, ◌<◌}
use lib.IntN.{ℤ}
use lib.Signed.{mag}
use mir.Syntax.{Width}
use mir.Val.{of_z, to_z, hbits}
use mir.ValLaws.{to_z-of_z}

-- a number with its bound, as a call's result or a variant of an enum has it, is read back from its bits
pub kept : (w : Width) (z : ℤ) → mag z < 2 ^ hbits w → to_z w (of_z w z) ≡ z
kept w z h = to_z-of_z w z (record { sfits = h })
