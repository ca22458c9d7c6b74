-- A sheet as 281 numbers, and the rows of a file added.
use Rattle.std.specs.Prelude.{Option, Some, None, Result, Ok, Err, ℕ, ◌+◌, ◌%◌, cond, List, [], ◌∷◌, ◌++◌, eqb, take, drop, get_or}
use Rattle.refusal.specs.declared.Refused.{Refused}
use Rattle.sheet_count.specs.declared.Extent.{Extent}
use Rattle.std.specs.Int.{w32}
use Rattle.std.proofs.Common.{to_z, of_z}
use Rattle.words.specs.Rows.{refused_row}
use Rattle.sheet_count.specs.declared.Range.{Range}
use Rattle.sheet.specs.declared.Sheet.{Sheet}
use Rattle.sheet.specs.Sheet.{Added}

-- the numbers from a place on
abbrev pub part_from : ℕ → ℕ → List ℕ → List ℕ
part_from at size n = take size (drop at n)

-- a smallest and a largest number, in two's complement of 32 bits, at a place and after it
unfoldable pub range_from : ℕ → List ℕ → Range
range_from k n = record { min = to_z w32 (get_or n k 0 % 4294967296); max = to_z w32 (get_or n (k + 1) 0 % 4294967296) }

-- "no smallest and largest": 0 says so, any other number that they are there
unfoldable pub bounds_from : List ℕ → Option Extent
bounds_from n =
    cond (eqb (get_or n 2 0) 0) None (Some (record { x = range_from 3 n; y = range_from 5 n; z = range_from 7 n }))

-- files, points, bounds, a count for each class from 0 to 255, a count for each return number from 0 to 15
unfoldable pub sheet_from : List ℕ → Sheet
sheet_from n =
    record {
      files = get_or n 0 0;
      points = get_or n 1 0;
      bounds = bounds_from n;
      classes = part_from 9 256 n;
      returns = part_from 265 16 n;
    }

-- and back
abbrev pub head_numbers : ℕ → ℕ → Option Extent → List ℕ
head_numbers files points None = files ∷ points ∷ 0 ∷ 0 ∷ 0 ∷ 0 ∷ 0 ∷ 0 ∷ 0 ∷ []
head_numbers files points (Some e) =
    files ∷ points ∷ 1 ∷ of_z w32 e.x.min ∷ of_z w32 e.x.max ∷ of_z w32 e.y.min ∷ of_z w32 e.y.max
    ∷ of_z w32 e.z.min ∷ of_z w32 e.z.max ∷ []

unfoldable pub sheet_numbers : Sheet → List ℕ
sheet_numbers h = head_numbers h.files h.points h.bounds ++ (h.classes ++ h.returns)

-- nothing is refused, and the sheet's numbers; or the refusal with its record number, and the numbers as they were
abbrev pub added_by : Result Unit Refused → Sheet → List ℕ → List ℕ × List ℕ
added_by (Ok tt) h n = (0 ∷ 0 ∷ 0 ∷ [], sheet_numbers h)
added_by (Err err) h n = (refused_row err.refusal err.«record», n)

unfoldable pub added_row : Added → List ℕ → List ℕ × List ℕ
added_row a n = added_by a.0 a.1 n
