-- An attribute's values in many points: document 02, No. 8, with No. 6's stretches, "Refusals, in order: .. stretch not within the points
-- (27); no room."
use Rattle.std.specs.Prelude.{Result, Ok, Err}
use Rattle.refusal.specs.Refused.{at_record}
use Rattle.refusal.specs.declared.Refused.{Refused}
use Rattle.std.specs.Prelude.{ℕ, ◌+◌, ◌*◌, ◌-◌, ◌≤◌, ◌<◌, min, Bool, true, cond, ◌&&◌, List, eqb, ltb, length}
use Rattle.refusal.specs.declared.Refusal.TheVariants.{NoRoom, Index}
use Rattle.column.specs.Column.{same, within, filled_of}
use Rattle.attribute.specs.declared.Attribute.{Attribute}
use Rattle.attribute_value.specs.Value.{value_at, lies}

-- the stretch is within the points, and the last of its values lies in the file
unfoldable pub all_lie : Attribute → ℕ → ℕ → List ℕ → Bool
all_lie a first count s = within first count a.count && cond (eqb count 0) true (lies a (first - 1 + count) s)

-- what a column answers, and the buffer d after it: each entry the first eight bytes of a value, or all of it where it has no more
unfoldable pub column_of : Attribute → ℕ → ℕ → List ℕ → List ℕ → Result ℕ Refused × List ℕ
column_of a first count s d =
    cond (all_lie a first count s)
    (cond (ltb (length d) count) (Err (at_record (NoRoom count) 0), d)
    (Ok count, filled_of same (min a.size 8) (value_at a first) a.stride count s d))
    (Err (at_record (Index a.count) 0), d)

-- n numbers of w bytes, at most eight, the first at `at` and each a record behind the one before it, stand in s
pub record Stand (w at stride n : ℕ) (s : List ℕ) : Type 0 where
  pub each : (i : ℕ) → i < n → at + i * stride + w ≤ length s
  pub short : w ≤ 8
  pub record_long : (20 ≤ stride) × (stride ≤ 65535)
