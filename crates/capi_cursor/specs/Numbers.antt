-- A part as three numbers, a cursor as ten, both ways, and the rows of its calls.
use Rattle.std.specs.Prelude.{Option, Some, None, Result, Ok, Err}
use Rattle.refusal.specs.declared.Refused.{Refused}
use Rattle.std.specs.Prelude.{ℕ, ◌%◌, Bool, true, false, cond, not, List, [], ◌∷◌, eqb, get_or}
use Rattle.words.specs.Rows.{refused_row}
use Rattle.cursor.specs.declared.Kind.{Kind}
use Rattle.cursor.specs.declared.Kind.TheVariants as kind
use Rattle.cursor.specs.declared.Part.{Part}
use Rattle.cursor.specs.declared.Stage.{Stage}
use Rattle.cursor.specs.declared.Stage.TheVariants as stage
use Rattle.cursor.specs.declared.Plan.{Plan}
use Rattle.cursor.specs.declared.Cursor.{Cursor}
use Rattle.cursor.specs.declared.Step.{Step}
use Rattle.cursor.specs.Cursor.{step_of}

abbrev pub kind_number : Kind → ℕ
kind_number kind.Header = 0
kind_number kind.Vlr = 1
kind_number kind.Gap = 2
kind_number kind.Points = 3
kind_number kind.Evlr = 4
kind_number kind.Waveform = 5

-- kind, start and length
abbrev pub part_numbers : Part → List ℕ
part_numbers p = kind_number p.kind ∷ p.start ∷ p.length ∷ []

abbrev pub stage_number : Stage → ℕ
stage_number stage.Header = 0
stage_number stage.Vlrs = 1
stage_number stage.Points = 2
stage_number stage.Between = 3
stage_number stage.Later = 4

unfoldable pub stage_from : ℕ → Stage
stage_from n =
    cond (eqb n 0) stage.Header (cond (eqb n 1) stage.Vlrs (cond (eqb n 2) stage.Points (cond (eqb n 3) stage.Between stage.Later)))

-- a cursor as ten numbers, and the cursor of ten numbers
unfoldable pub cursor_numbers : Cursor → List ℕ
cursor_numbers c =
    stage_number c.stage ∷ c.at ∷ c.left ∷
    c.plan.header_size ∷ c.plan.number_of_vlrs ∷ c.plan.points ∷ c.plan.«end» ∷
    c.plan.start_of_later_records ∷ c.plan.number_of_later_records ∷ cond c.plan.waveform 1 0 ∷ []

-- the number at place k
abbrev pub nth : List ℕ → ℕ → ℕ
nth n k = get_or n k 0

abbrev pub plan_from : List ℕ → Plan
plan_from n =
    record {
      header_size = nth n 3;
      number_of_vlrs = nth n 4 % 4294967296;
      points = nth n 5;
      «end» = nth n 6;
      waveform = not (eqb (nth n 9) 0);
      start_of_later_records = nth n 7;
      number_of_later_records = nth n 8 % 4294967296;
    }

unfoldable pub cursor_from : List ℕ → Cursor
cursor_from n = record { stage = stage_from (nth n 0); at = nth n 1; left = nth n 2 % 4294967296; plan = plan_from n }

-- a start's row and the cursor n, which a refusal leaves
abbrev pub started_row : List ℕ → Result Cursor Refused → List ℕ × List ℕ
started_row n (Ok c) = (0 ∷ 0 ∷ 0 ∷ [], cursor_numbers c)
started_row n (Err err) = (refused_row err.refusal err.«record», n)

-- whether a step has a part, and then the cursor after it and the part in place of n and p
abbrev pub stepped : Option Step → List ℕ → List ℕ → Bool × List ℕ × List ℕ
stepped None n p = (false, n, p)
stepped (Some t) n p = (true, cursor_numbers t.next, part_numbers t.part)

unfoldable pub stepped_row : List ℕ → List ℕ → List ℕ → Bool × List ℕ × List ℕ
stepped_row s n p = stepped (step_of s (cursor_from n)) n p
