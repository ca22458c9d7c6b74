-- A waveform is read from its part of a record as from the record itself.
use Prim.Native.Nat.{ℕ}
use mathlib.Core.Path.{◌≡◌}
use mathlib.Core.List.{List}
use native.Mathlib.Omega.{arith}
use lib.ListN.{take, drop}
use Rattle.le.specs.Part.{num-part, num-first}
use Rattle.point.specs.Read.{waveform_at}

pub waveform_part : (at : ℕ) (s : List ℕ) → waveform_at 0 (take 29 (drop at s)) ≡ waveform_at at s
unfolding waveform_at
waveform_part at s =
    rw (num-first 1 29 at s (omega arith), num-part 8 1 29 at s (omega arith), num-part 4 9 29 at s (omega arith), num-part 4 13 29 at s (omega arith), num-part 4 17 29 at s (omega arith), num-part 4 21 29 at s (omega arith), num-part 4 25 29 at s (omega arith))
