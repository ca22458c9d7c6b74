-- Flags raised as a group of bits are the flags raised one by one.
use Prim.Native.Nat.{ℕ, ◌+◌, ◌*◌, ◌/◌, ◌%◌, ◌<◌}
use mathlib.Core.Path.{◌≡◌}
use mathlib.Core.Bool.{Bool}
use native.Mathlib.Omega.{arith}
use Rattle.flags.specs.declared.Flags.{Flags}
use Rattle.flags.specs.declared.Flags.TheVariants.{ThreeByte}
use Rattle.flags.specs.Readings.{bit}
use Rattle.flags.specs.Bytes.{flag}
use Rattle.flags.specs.Bits.{cut, flag-bit}
use Rattle.strict.specs.Upgrade.{new_first, new_second}

module _ (a b : ℕ) (h : a < 256) (l : b < 256) where
  -- return number and number of returns take four bits each
  first_raised : a / 8 % 8 * 16 + a % 8 ≡ new_first (a % 8) (a / 8 % 8)
  first_raised = omega arith

  -- direction and edge keep their places, synthetic, key point and withheld come down by five, and o is the overlap flag
  second_raised : (o : Bool) → a / 64 * 64 + b / 32 + 8 * flag o ≡ new_second (bit 5 b) (bit 6 b) (bit 7 b) o 0 (bit 6 a) (bit 7 a)
  second_raised o =
      omega (arith, flag-bit (a / 64), flag-bit (a / 128), flag-bit (b / 32), flag-bit (b / 64), flag-bit (b / 128), cut 32 2 b, cut 64 2 b)

  abbrev said : Bool → Flags
  said o = ThreeByte (new_first (a % 8) (a / 8 % 8)) (new_second (bit 5 b) (bit 6 b) (bit 7 b) o 0 (bit 6 a) (bit 7 a)) (b % 32)

  pub raised : (o : Bool) (m : ℕ) → m ≡ a / 64 * 64 + b / 32 + 8 * flag o → ThreeByte (a / 8 % 8 * 16 + a % 8) m (b % 32) ≡ said o
  raised o m e = rw (e, second_raised o, first_raised)
