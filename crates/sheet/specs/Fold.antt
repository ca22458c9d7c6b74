-- Many files: a fold of the sheet over them, and which of them were taken.
use Rattle.std.specs.Prelude.{Result, Ok, Err, ℕ, ◌+◌, ◌≡◌, List, [], ◌∷◌, ◌⊎◌, ℤ}
use Rattle.refusal.specs.Refused.{at_record}
use Rattle.refusal.specs.declared.Refused.{Refused}
use Rattle.refusal.specs.declared.Refusal.TheVariants.{TotalTooLarge}
use Rattle.le.specs.Le.{Bytes}
use Rattle.column.specs.declared.Axis.{Axis}
use Rattle.walker.specs.Begin.{begin_of}
use Rattle.sheet_count.specs.File.{point_at, class_at, return_at}
use Rattle.sheet_count.specs.Totals.{count_of}
use Rattle.sheet_count.specs.Theorems.{of, Among}
use Rattle.sheet.specs.declared.Sheet.{Sheet}
use Rattle.sheet.specs.Sheet.{added_of}

module _ (allowance : ℕ) where
  -- the sheet after some files
  abbrev pub after : Sheet → List (List ℕ) → Sheet
  after h [] = h
  after h (s ∷ files) = after (added_of allowance h s).1 files

  -- those of them that were added
  abbrev pub taken_by : Result Unit Refused → List ℕ → List (List ℕ) → List (List ℕ)
  taken_by (Ok tt) s files = s ∷ files
  taken_by (Err err) s files = files

  abbrev pub taken : Sheet → List (List ℕ) → List (List ℕ)
  taken h [] = []
  taken h (s ∷ files) = taken_by (added_of allowance h s).0 s (taken (added_of allowance h s).1 files)

  -- none of them is refused with 50
  abbrev pub NoneTooLarge : Sheet → List (List ℕ) → Type 0
  NoneTooLarge h [] = Unit
  NoneTooLarge h (s ∷ files) = ((added_of allowance h s).0 ≡ Err (at_record TotalTooLarge 0) → ⊥) × NoneTooLarge (added_of allowance h s).1 files

  -- a file's points, and how many of them have class k or return number k
  abbrev pub points_of : List ℕ → ℕ
  points_of s = (begin_of allowance s).count

  abbrev pub of_class : ℕ → List ℕ → ℕ
  of_class k s = count_of (class_at (begin_of allowance s) s) (points_of s) k

  abbrev pub of_return : ℕ → List ℕ → ℕ
  of_return k s = count_of (return_at (begin_of allowance s) s) (points_of s) k

  -- z is X, Y or Z of a point of a file, and of one of some files
  abbrev pub InFile : Axis → List ℕ → ℤ → Type 0
  InFile a s z = Among (λ i. of a (point_at (begin_of allowance s) s i)) (points_of s) z

  abbrev pub InFiles : Axis → List (List ℕ) → ℤ → Type 0
  InFiles a [] z = ⊥
  InFiles a (s ∷ files) z = InFile a s z ⊎ InFiles a files z

-- a number of each file, of all of them together
abbrev pub sum_over : (List ℕ → ℕ) → List (List ℕ) → ℕ
sum_over number [] = 0
sum_over number (s ∷ files) = number s + sum_over number files

-- files are bytes, as their type has it
abbrev pub AllBytes : List (List ℕ) → Type 0
AllBytes [] = Unit
AllBytes (s ∷ files) = Bytes s × AllBytes files

-- the same files in another order
pub data Order : List (List ℕ) → List (List ℕ) → Type 0 where
  same : {files : List (List ℕ)} → Order files files
  swapped : {s t : List ℕ} {files : List (List ℕ)} → Order (s ∷ t ∷ files) (t ∷ s ∷ files)
  behind : {s : List ℕ} {files others : List (List ℕ)} → Order files others → Order (s ∷ files) (s ∷ others)
  then : {first second third : List (List ℕ)} → Order first second → Order second third → Order first third
