-- Columns: document 02, No. 6, "one field of many points: X, Y, Z, time, red, green, blue or NIR, for a stretch of points", each "straight to
-- [its] place in the record".
use Rattle.std.specs.Prelude.{Result, Ok, Err, ℕ, zero, suc, ◌+◌, ◌*◌, ◌-◌, ◌≤◌, ◌<◌, Bool, cond, ◌&&◌, List, [], ◌∷◌, ◌++◌, ltb, leb, Float, length, drop}
use Rattle.refusal.specs.Refused.{at_record}
use Rattle.refusal.specs.declared.Refused.{Refused}
use Rattle.refusal.specs.declared.Refusal.TheVariants.{NoRoom, Index, FieldLacking}
use Rattle.le.specs.Le.{num}
use Rattle.le.specs.Real.{f64_of}
use Rattle.format.specs.declared.Format.{Format}
use Rattle.format.specs.declared.Field.{Field}
use Rattle.format.specs.declared.Field.TheVariants as field
use Rattle.format.specs.Fields.{place_of, has_of, record_bytes}
use Rattle.walker.specs.declared.Place.{Place}
use Rattle.walker.specs.Begin.{begin_of}
use Rattle.column.specs.declared.Axis.TheVariants.{X, Y, Z}
use Rattle.column.specs.declared.Channel.TheVariants.{Red, Green, Blue, Nir}
use Rattle.column.specs.declared.Column.{Column}
use Rattle.column.specs.declared.Column.TheVariants.{Axis, Time, Channel}
use Rattle.column.specs.declared.Stretch.{Stretch}

-- the field that a column is of, in the field table of a record
abbrev pub field_of : Column → Field
field_of (Axis X) = field.X
field_of (Axis Y) = field.Y
field_of (Axis Z) = field.Z
field_of Time = field.GpsTime
field_of (Channel Red) = field.Color
field_of (Channel Green) = field.Color
field_of (Channel Blue) = field.Color
field_of (Channel Nir) = field.Nir

-- whether a format has it
abbrev pub has_in : Format → Column → Bool
has_in f c = has_of f (field_of c)

-- where in the record the column's number stands, "colour (three u16)" red first,
abbrev pub place_in : Format → Column → ℕ
place_in f (Axis X) = place_of f field.X
place_in f (Axis Y) = place_of f field.Y
place_in f (Axis Z) = place_of f field.Z
place_in f Time = place_of f field.GpsTime
place_in f (Channel Red) = place_of f field.Color
place_in f (Channel Green) = place_of f field.Color + 2
place_in f (Channel Blue) = place_of f field.Color + 4
place_in f (Channel Nir) = place_of f field.Nir

-- and how many bytes it has
abbrev pub width_of : Column → ℕ
width_of (Axis a) = 4
width_of Time = 8
width_of (Channel c) = 2

-- what an entry holds: the number as it is, or the float that it is the pattern of
abbrev pub same : ℕ → ℕ
same n = n

abbrev pub real : ℕ → Float
real n = (f64_of n).value

-- the first n values of a rule
unfoldable pub firsts : {A : Type 0} → (ℕ → A) → ℕ → List A
firsts f zero = []
firsts f (suc n) = firsts f n ++ (f n ∷ [])

-- n numbers of w bytes from `at` on in s, each `stride` bytes after the one before it, at the front of d, and what lies past them as it was
module _ {A : Type 0} (value : ℕ → A) (w at stride : ℕ) where
  abbrev pub entry_of : List ℕ → ℕ → A
  entry_of s i = value (num w (at + i * stride) s)

  unfoldable pub filled_of : ℕ → List ℕ → List A → List A
  filled_of n s d = firsts (entry_of s) n ++ drop n d

-- "stretch not within the points": `count` points from number `first` on, the first being 1
unfoldable pub within : ℕ → ℕ → ℕ → Bool
within first count points = ltb 0 first && leb (first - 1 + count) points

-- the stretch of a field in points of a format that start at `at`
abbrev pub stretch_at : Format → ℕ → Column → ℕ → ℕ → Stretch
stretch_at f at c first count =
    record { at = at + (first - 1) * record_bytes f + place_in f c; stride = record_bytes f; count = count }

-- "Refusals, in order: file check; field lacking; stretch not within the points (27); no room."
unfoldable pub stretch_in : Format → ℕ → ℕ → Column → ℕ → ℕ → ℕ → Result Stretch Refused
stretch_in f at points c first count room =
    cond (has_in f c)
    (cond (within first count points)
    (cond (ltb room count) (Err (at_record (NoRoom count) 0)) (Ok (stretch_at f at c first count)))
    (Err (at_record (Index points) 0)))
    (Err (at_record FieldLacking 0))

-- by what a walker of the file starts from
abbrev pub stretch_by : Place → Column → ℕ → ℕ → ℕ → Result Unit Refused → Result Stretch Refused
stretch_by p c first count room (Ok tt) = stretch_in p.format p.at p.count c first count room
stretch_by p c first count room (Err err) = Err err

unfoldable pub stretch_of : ℕ → Column → ℕ → ℕ → ℕ → List ℕ → Result Stretch Refused
stretch_of allowance c first count room s =
    stretch_by (begin_of allowance s) c first count room (begin_of allowance s).start

-- what a column answers, and the buffer d after it
module _ {A : Type 0} (value : ℕ → A) where
  abbrev pub filled_by : ℕ → ℕ → Result Stretch Refused → List ℕ → List A → Result ℕ Refused × List A
  filled_by w count (Ok t) s d = (Ok count, filled_of value w t.at t.stride t.count s d)
  filled_by w count (Err err) s d = (Err err, d)

  unfoldable pub column_of : Column → ℕ → ℕ → ℕ → List ℕ → List A → Result ℕ Refused × List A
  column_of c allowance first count s d =
      filled_by (width_of c) count (stretch_of allowance c first count (length d) s) s d

-- n numbers of w bytes, the first at `at` and each `stride` bytes after the one before it, stand in s and do not overlap
pub record Lie (w at stride n : ℕ) (s : List ℕ) : Type 0 where
  pub each : (i : ℕ) → i < n → at + i * stride + w ≤ length s
  pub apart : 0 < n → w ≤ stride
  pub strides : n * stride ≤ length s
