-- The site sheet: document 02, No. 9, "one sheet for many files: points for each class, for each return number including zero, smallest and
-- largest X, Y and Z as the stored whole numbers, and totals".
use Rattle.std.specs.Prelude.{Option, Some, None, Result, Ok, Err, ℕ, ◌+◌, ◌^◌, Bool, true, cond, ◌&&◌, List, [], ◌∷◌, ltb, replicate}
use Rattle.refusal.specs.Refused.{at_record}
use Rattle.sheet_count.specs.declared.Extent.{Extent}
use Rattle.refusal.specs.declared.Refused.{Refused}
use Rattle.refusal.specs.declared.Refusal.TheVariants.{TotalTooLarge}
use Rattle.sheet_count.specs.declared.Tally.{Tally}
use Rattle.sheet_count.specs.Count.{both_extents}
use Rattle.sheet_count.specs.File.{counted_of}
use Rattle.sheet.specs.declared.Sheet.{Sheet}

-- of no files
unfoldable pub empty_sheet : Sheet
empty_sheet = record { files = 0; points = 0; bounds = None; classes = replicate 256 0; returns = replicate 16 0 }

-- "a total over 2^64−1" is refused: a number and what is added to it, and each of a list and what is added to it
unfoldable pub fits_in : ℕ → ℕ → Bool
fits_in total more = ltb (total + more) (2 ^ 64)

unfoldable pub all_fit : List ℕ → List ℕ → Bool
all_fit [] more = true
all_fit (x ∷ totals) [] = true
all_fit (x ∷ totals) (y ∷ more) = fits_in x y && all_fit totals more

unfoldable pub totals_fit : Sheet → Tally → Bool
totals_fit h t =
    fits_in h.files 1 && (fits_in h.points t.points && (all_fit h.classes t.classes && all_fit h.returns t.returns))

-- each of a list with what is added to it
unfoldable pub sums : List ℕ → List ℕ → List ℕ
sums [] more = []
sums (x ∷ totals) [] = []
sums (x ∷ totals) (y ∷ more) = (x + y) ∷ sums totals more

-- smallest and largest of all; no points have none
abbrev pub both_bounds : Option Extent → Option Extent → Option Extent
both_bounds None b = b
both_bounds (Some x) None = Some x
both_bounds (Some x) (Some y) = Some (both_extents x y)

-- the sheet with the counts of a file more
unfoldable pub grown_by : Sheet → Tally → Sheet
grown_by h t =
    record {
      files = h.files + 1;
      points = h.points + t.points;
      bounds = both_bounds h.bounds t.bounds;
      classes = sums h.classes t.classes;
      returns = sums h.returns t.returns;
    }

-- the answer, and the sheet after it
abbrev pub Added : Type 0
Added = Result Unit Refused × Sheet

unfoldable pub added_to : Sheet → Tally → Added
added_to h t =
    cond (totals_fit h t) (Ok tt, grown_by h t) (Err (at_record TotalTooLarge 0), h)

-- "Refusals: the file's own, and a total over 2^64−1"; "A refused file .. adds nothing"
abbrev pub added_by : Sheet → Result Tally Refused → Added
added_by h (Ok t) = added_to h t
added_by h (Err err) = (Err err, h)

unfoldable pub added_of : ℕ → Sheet → List ℕ → Added
added_of allowance h s = added_by h (counted_of allowance s)
