-- What a cursor tells: one step, and all that is left.
use Rattle.rules.specs.NotAccepted.{refused_of}
use Rattle.std.specs.Prelude.{Option, Some, None, Result, Ok, Err}
use Rattle.refusal.specs.declared.Refused.{Refused}
use Rattle.rules.specs.declared.NotAccepted.{NotAccepted}
use Rattle.refusal.specs.declared.Refusal.{Refusal}
use Rattle.std.specs.Prelude.{ℕ, zero, suc, ◌+◌, ◌-◌, Bool, true, false, cond, List, [], ◌∷◌, ◌++◌, ltb, length}
use Rattle.vlr.specs.Vlr.{extent_of}
use Rattle.outline.specs.declared.Outline.{Outline}
use Rattle.extents.specs.Extents.{points_end}
use Rattle.file.specs.Rules.{checked_of}
use Rattle.cursor.specs.declared.Kind.{Kind}
use Rattle.cursor.specs.declared.Kind.TheVariants as kind
use Rattle.cursor.specs.declared.Part.{Part}
use Rattle.cursor.specs.declared.Plan.{Plan}
use Rattle.cursor.specs.declared.Stage.{Stage}
use Rattle.cursor.specs.declared.Stage.TheVariants as stage
use Rattle.cursor.specs.declared.Cursor.{Cursor}
use Rattle.cursor.specs.declared.Step.{Step}
use Rattle.cursor.specs.Parts.{part, gap, between, outline_in, later_kind, later_start}

-- the numbers of an outline that a cursor goes by
unfoldable pub plan_of : Outline → Plan
plan_of o =
    record {
      header_size = o.header_size;
      number_of_vlrs = o.number_of_variable_length_records;
      points = o.offset_to_point_data;
      «end» = points_end o;
      waveform = o.waveform;
      start_of_later_records = later_start o;
      number_of_later_records = o.number_of_later_records;
    }

-- a cursor at a place, with so many records left of its stage
abbrev pub cursor : Stage → ℕ → ℕ → Plan → Cursor
cursor stage at left p = record { stage = stage; at = at; left = left; plan = p }

-- the cursor at the first part
unfoldable pub first_of : Plan → Cursor
first_of p = cursor stage.Header 0 0 p

-- the file check's refusal, or the cursor
abbrev pub started_by : Result ℕ NotAccepted → Cursor → Result Cursor Refused
started_by (Ok n) c = Ok c
started_by (Err err) c = Err (refused_of err)

-- What there is to tell of the file s, after the file check.
unfoldable pub started_of : ℕ → List ℕ → Result Cursor Refused
started_of allowance s = started_by (checked_of allowance s) (first_of (plan_of (outline_in s)))

-- a part is told, and where to go on
abbrev pub told : Kind → ℕ → ℕ → Cursor → Option Step
told kind start n next = Some (record { part = part kind start n; next = next })

-- the gap up to a place where there is one, else what comes after it
unfoldable pub past_gap : ℕ → ℕ → Cursor → Option Step → Option Step
past_gap at to next otherwise = cond (ltb at to) (told kind.Gap at (to - at) next) otherwise

-- of a record that takes n bytes, and of one that is not all there
abbrev pub when_bytes : {A : Type 0} → Result ℕ Refusal → (ℕ → A) → A → A
when_bytes (Ok n) f x = f n
when_bytes (Err r) f x = x

-- the record at the cursor, which must end at or before `to`
unfoldable pub record_step : List ℕ → Kind → Bool → ℕ → Cursor → Option Step
record_step s kind extended to c =
    when_bytes (extent_of extended (between c.at to s)) (λ n. told kind c.at n (cursor c.stage (c.at + n) (c.left - 1) c.plan))
    None

abbrev pub header_step : Plan → Option Step
header_step p = told kind.Header 0 p.header_size (cursor stage.Vlrs p.header_size p.number_of_vlrs p)

abbrev pub points_step : Plan → Option Step
points_step p = told kind.Points p.points (p.«end» - p.points) (cursor stage.Between p.«end» 0 p)

unfoldable pub vlrs_step : List ℕ → Cursor → Option Step
vlrs_step s c =
    cond (ltb 0 c.left) (record_step s kind.Vlr false c.plan.points c)
    (past_gap c.at c.plan.points (cursor stage.Points c.plan.points 0 c.plan) (points_step c.plan))

unfoldable pub later_step : List ℕ → Cursor → Option Step
later_step s c =
    cond (ltb 0 c.left) (record_step s (later_kind c.plan.waveform) true (length s) c)
    (past_gap c.at (length s) (cursor stage.Later (length s) 0 c.plan) None)

-- the cursor at the first of the later records
abbrev pub at_later : Plan → Cursor
at_later p = cursor stage.Later p.start_of_later_records p.number_of_later_records p

unfoldable pub between_step : List ℕ → Cursor → Option Step
between_step s c = past_gap c.at c.plan.start_of_later_records (at_later c.plan) (later_step s (at_later c.plan))

abbrev pub step_at : Stage → List ℕ → Cursor → Option Step
step_at stage.Header s c = header_step c.plan
step_at stage.Vlrs s c = vlrs_step s c
step_at stage.Points s c = points_step c.plan
step_at stage.Between s c = between_step s c
step_at stage.Later s c = later_step s c

-- What a step tells of the file s.
unfoldable pub step_of : List ℕ → Cursor → Option Step
step_of s c = step_at c.stage s c

-- Of k records from `at` on, those that are all there, then the gap up to `to` and what comes after; a record that is not all
-- there is the end.
unfoldable pub records_from : List ℕ → Kind → Bool → ℕ → ℕ → ℕ → List Part → List Part
records_from s kind extended zero at to after = gap at to ++ after
records_from s kind extended (suc k) at to after = when_bytes (extent_of extended (between at to s)) (λ n. part kind at n ∷ records_from s kind extended k (at + n) to after) []

unfoldable pub later_from : List ℕ → Plan → ℕ → ℕ → List Part
later_from s p left at = records_from s (later_kind p.waveform) true left at (length s) []

unfoldable pub end_from : List ℕ → Plan → ℕ → List Part
end_from s p at = gap at p.start_of_later_records ++ later_from s p p.number_of_later_records p.start_of_later_records

unfoldable pub points_from : List ℕ → Plan → List Part
points_from s p = part kind.Points p.points (p.«end» - p.points) ∷ end_from s p p.«end»

unfoldable pub vlrs_from : List ℕ → Plan → ℕ → ℕ → List Part
vlrs_from s p left at = records_from s kind.Vlr false left at p.points (points_from s p)

abbrev pub left_at : Stage → List ℕ → Cursor → List Part
left_at stage.Header s c = part kind.Header 0 c.plan.header_size ∷ vlrs_from s c.plan c.plan.number_of_vlrs c.plan.header_size
left_at stage.Vlrs s c = vlrs_from s c.plan c.left c.at
left_at stage.Points s c = points_from s c.plan
left_at stage.Between s c = end_from s c.plan c.at
left_at stage.Later s c = later_from s c.plan c.left c.at

-- All the parts that a cursor has still to tell.
unfoldable pub left_of : List ℕ → Cursor → List Part
left_of s c = left_at c.stage s c

-- what a step tells, followed by what is left after it
abbrev pub told_by : (Cursor → List Part) → Option Step → List Part
told_by rest None = []
told_by rest (Some r) = r.part ∷ rest r.next

-- the cursor after a step; without a part it is where it was
abbrev pub cursor_after : Cursor → Option Step → Cursor
cursor_after c None = c
cursor_after c (Some r) = r.next

-- and after k steps
abbrev pub after : ℕ → List ℕ → Cursor → Cursor
after zero s c = c
after (suc k) s c = cursor_after (after k s c) (step_of s (after k s c))
