-- When a column is filled, and when it is refused: document 02, No. 6, "Refusals, in order: file check; field lacking; stretch not within the
-- points (27); no room."
use Rattle.std.specs.Prelude.{Ok, Err, ℕ, ◌+◌, ◌-◌, ◌≤◌, ◌<◌, ◌≡◌, true, false, List}
use Rattle.rules.specs.NotAccepted.{not_accepted}
use Rattle.refusal.specs.declared.Refusal.{Refusal}
use Rattle.refusal.specs.declared.Refusal.TheVariants.{NoRoom, Index, FieldLacking}
use Rattle.format.specs.declared.Format.{Format}
use Rattle.header.specs.Judged.{header_in}
use Rattle.outline.specs.declared.Outline.{Outline}
use Rattle.outline.specs.Outline.{outline_of}
use Rattle.file.specs.Rules.{checked_of}
use Rattle.file.specs.Points.{point_format}
use Rattle.column.specs.declared.Column.{Column}
use Rattle.column.specs.Column.{has_in}

-- what a file's header says of its points
abbrev pub outline_in : List ℕ → Outline
outline_in s = outline_of (header_in s)

abbrev pub format_in : List ℕ → Format
format_in s = point_format (outline_in s)

abbrev pub start_in : List ℕ → ℕ
start_in s = (outline_in s).offset_to_point_data

abbrev pub points_in : List ℕ → ℕ
points_in s = (outline_in s).number_of_point_records

-- the stretch is within the points; points are counted from 1
abbrev pub Within : ℕ → ℕ → ℕ → Type 0
Within first count points = (1 ≤ first) × (first - 1 + count ≤ points)

-- what is passed, one after the other
abbrev pub Accepted : ℕ → List ℕ → Type 0
Accepted allowance s = (n : ℕ) × (checked_of allowance s ≡ Ok n)

abbrev pub Has : ℕ → Column → List ℕ → Type 0
Has allowance c s = Accepted allowance s × (has_in (format_in s) c ≡ true)

abbrev pub Lies : ℕ → Column → ℕ → ℕ → List ℕ → Type 0
Lies allowance c first count s = Has allowance c s × Within first count (points_in s)

module _ (allowance : ℕ) (c : Column) (first count room : ℕ) (s : List ℕ) where
  -- the refusals in their order
  pub data RefusedFor : Refusal → ℕ → Type 0 where
    file_check : {why : Refusal} {j n : ℕ} → checked_of allowance s ≡ Err (not_accepted why j n) → RefusedFor why j
    field_lacking : Accepted allowance s → has_in (format_in s) c ≡ false → RefusedFor FieldLacking 0
    not_within : Has allowance c s → (Within first count (points_in s) → ⊥) → RefusedFor (Index (points_in s)) 0
    no_room : Lies allowance c first count s → room < count → RefusedFor (NoRoom count) 0

  -- and none of them
  abbrev pub FilledFor : Type 0
  FilledFor = Lies allowance c first count s × (count ≤ room)
