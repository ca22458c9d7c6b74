-- The points of a file as its walker gives them, and laws of the points of two files.
use Rattle.std.specs.Prelude.{Result, Ok, Err}
use Rattle.refusal.specs.Refused.{at_record}
use Rattle.point.specs.declared.Point.{Point}
use Rattle.refusal.specs.declared.Refused.{Refused}
use Rattle.std.specs.Prelude.{ℕ, ◌+◌, ◌*◌, ◌≤◌, ◌<◌, ◌≡◌, List}
use Rattle.std.proofs.Common.{ap, ◌∙◌, suc-mul, mul-le-mul_right, arith}
use Rattle.std.specs.Borrow.{Bor}
use Rattle.refusal.specs.declared.Refusal.TheVariants.{Index}
use Rattle.le.specs.Le.{Bytes}
use Rattle.fields.specs.Table.{part}
use Rattle.format.specs.declared.Format.{Format}
use Rattle.point.specs.Read.{point_of}
use Rattle.header.specs.Judged.{header_in}
use Rattle.outline.specs.declared.Outline.{Outline}
use Rattle.outline.specs.Outline.{outline_of, counting}
use Rattle.file.specs.Rules.{checked_of}
use Rattle.file.specs.Points.{point_format}
use Rattle.file.specs.Kept.{counting_format}
use Rattle.walker.specs.Begin.{walker_of}
use Rattle.walker.specs.Walk.{record_of}
use Rattle.walker.specs.Steps.{walked_on, answer_of}
use Rattle.walker.specs.Theorems.{in_turn, bytes_in_turn, at_the_end}

-- the i-th answer of a file's walker, counted from 0, and the bytes of its record
abbrev pub point_in : ℕ → Bor (List ℕ) → ℕ → Result Point Refused
point_in a file i = answer_of i (walker_of a file)

abbrev pub record_in : ℕ → Bor (List ℕ) → ℕ → List ℕ
record_in a file i = record_of file.now (walked_on i (walker_of a file)).place

-- a file's i-th point is that of a record l of format f, and stands there in its bytes
abbrev pub PointOf : ℕ → Bor (List ℕ) → ℕ → Format → List ℕ → Type 0
PointOf a x i f l = (point_in a x i ≡ Ok (point_of f l)) × (record_in a x i ≡ l)

-- two files have the same i-th point, and it stands there in the same bytes
abbrev pub SamePoint : ℕ → Bor (List ℕ) → Bor (List ℕ) → ℕ → Type 0
SamePoint a x y i = (point_in a x i ≡ point_in a y i) × (record_in a x i ≡ record_in a y i)

-- "exactly the old points": every answer is the same, also behind them, and each of the `count` records
pub record OldPoints (a count : ℕ) (old x : Bor (List ℕ)) : Type 0 where
  pub answers : (i : ℕ) → point_in a x i ≡ point_in a old i
  pub records : (i : ℕ) → i < count → record_in a x i ≡ record_in a old i

-- "exactly the old and the new": first the old ones, then n of the records offered, of format f and m bytes each, and no others
pub record OldThenNew (a count : ℕ) (old x : Bor (List ℕ)) (f : Format) (m : ℕ) (offered : List ℕ) (n : ℕ) : Type 0 where
  pub first : (i : ℕ) → i < count → SamePoint a x old i
  pub next : (j : ℕ) → j < n → PointOf a x (count + j) f (part m (j * m) offered)
  pub last : (i : ℕ) → count + n ≤ i → point_in a x i ≡ Err (at_record (Index (count + n)) 0)

-- the i-th record of n bytes ends where k records do, or before
pub record_within : (i k n : ℕ) → i < k → i * n + n ≤ k * n
record_within i k n h = omega (arith, suc-mul i n, mul-le-mul_right n h)

-- the header's record length, and where it puts the i-th record
abbrev pub each : Outline → ℕ
each o = o.point_data_record_length

abbrev pub nth_at : Outline → ℕ → ℕ
nth_at o i = o.offset_to_point_data + i * each o

-- an accepted file whose header says o, but for the number of points
module _ (a : ℕ) (file : Bor (List ℕ)) {m : ℕ} (accepted : checked_of a file.now ≡ Ok m) (bytes : Bytes file.now) (points : ℕ) (o : Outline) (says : outline_of (header_in file.now) ≡ counting points o) where
  points_are : (outline_of (header_in file.now)).number_of_point_records ≡ points
  points_are = ap (λ (x : Outline). x.number_of_point_records) says

  pub point_there : (i : ℕ) (l : List ℕ) → i < points → part (each o) (nth_at o i) file.now ≡ l → PointOf a file i (point_format o) l
  point_there i l h there =
      let inside : i < (outline_of (header_in file.now)).number_of_point_records = omega (arith, points_are) in (
        (in_turn a file m accepted bytes i inside).1
            ∙ ap (λ (x : Outline). Ok (point_of (point_format x) (part (each x) (nth_at x i) file.now))) says
            ∙ (λ j. Ok (point_of (counting_format points o j) (there j))),
        bytes_in_turn a file m accepted bytes i inside ∙ ap (λ (x : Outline). part (each x) (nth_at x i) file.now) says ∙ there,
      )

  pub none_behind : (i : ℕ) → points ≤ i → point_in a file i ≡ Err (at_record (Index points) 0)
  none_behind i h = at_the_end a file m accepted bytes i (omega (arith, points_are)) ∙ ap (λ (k : ℕ). Err (at_record (Index k) 0)) points_are
