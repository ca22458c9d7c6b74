-- Three columns in one pass: document 02, No. 7, "The answers stay those of No. 6."
use Rattle.std.specs.Prelude.{Result, Ok, Err, ℕ, ◌+◌, min, List, ℤ, length}
use Rattle.refusal.specs.declared.Refused.{Refused}
use Rattle.std.specs.Int.{w32}
use Rattle.std.proofs.Common.{to_z}
use Rattle.column.specs.declared.Axis.TheVariants.{X}
use Rattle.column.specs.declared.Column.TheVariants.{Axis}
use Rattle.column.specs.declared.Stretch.{Stretch}
use Rattle.column.specs.Column.{filled_of, stretch_of}

-- X, Y and Z stand one after the other in a record: n of each at the front of its buffer, and what lies past them as it was
abbrev pub filled_xyz : ℕ → ℕ → ℕ → List ℕ → List ℤ → List ℤ → List ℤ → List ℤ × List ℤ × List ℤ
filled_xyz at stride n s x y z =
    (filled_of (to_z w32) 4 at stride n s x, filled_of (to_z w32) 4 (at + 4) stride n s y, filled_of (to_z w32) 4 (at + 8) stride n s z)

abbrev pub filled_by : ℕ → Result Stretch Refused → List ℕ → List ℤ → List ℤ → List ℤ → Result ℕ Refused × (List ℤ × List ℤ × List ℤ)
filled_by count (Ok t) s x y z = (Ok count, filled_xyz t.at t.stride t.count s x y z)
filled_by count (Err err) s x y z = (Err err, (x, y, z))

-- the answer, and the three buffers after it; 22 "where any of the three is short"
unfoldable pub xyz_of : ℕ → ℕ → ℕ → List ℕ → List ℤ → List ℤ → List ℤ → Result ℕ Refused × (List ℤ × List ℤ × List ℤ)
xyz_of allowance first count s x y z =
    filled_by count (stretch_of allowance (Axis X) first count (min (min (length x) (length y)) (length z)) s) s x y z
