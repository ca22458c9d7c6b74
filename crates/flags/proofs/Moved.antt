-- Flags moved as a group of bits are the flags moved one by one.
use Prim.Native.Nat.{ℕ, ◌+◌, ◌*◌, ◌/◌, ◌%◌, ◌<◌}
use mathlib.Core.Path.{◌≡◌}
use native.Mathlib.Omega.{arith}
use lib.Dec.{eqb}
use Rattle.flags.specs.Readings.{bit}
use Rattle.flags.specs.Bits.{low-three, flag-bit}
use Rattle.flags.specs.Bytes.{old_first, old_second}

-- direction and edge keep their places
pub first-moved : (b n r : ℕ) → b < 256 → b / 64 * 64 + n * 8 + r ≡ old_first r n (bit 6 b) (bit 7 b)
first-moved b n r h = omega (arith, flag-bit (b / 64), flag-bit (b / 128))

-- synthetic, key point and withheld go up by five places
pub second_moved : (b c : ℕ) → b % 8 * 32 + c ≡ old_second c (eqb (b % 2) 1) (bit 1 b) (bit 2 b)
second_moved b c = omega (arith, low-three b, flag-bit b, flag-bit (b / 2), flag-bit (b / 4))
