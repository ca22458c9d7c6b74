-- One file's counts: document 02, No. 9, "points for each class, for each return number including zero, smallest and largest X, Y and Z as the
-- stored whole numbers", "counted from the records".
use Rattle.std.specs.Prelude.{Option, Some, None, ℕ, zero, suc, ◌+◌, ◌*◌, Bool, List, ℤ, take, drop, set, get_or, replicate}
use Rattle.std.specs.Int.{w32, int_min, int_max}
use Rattle.std.proofs.Common.{to_z}
use Rattle.le.specs.Le.{num}
use Rattle.flags.specs.Readings.{class_of, return_number_of}
use Rattle.point.specs.Read.{flags_at}
use Rattle.sheet_count.specs.declared.Range.{Range}
use Rattle.sheet_count.specs.declared.Extent.{Extent}
use Rattle.sheet_count.specs.declared.Tally.{Tally}

-- one more for number k
abbrev pub one_more : List ℕ → ℕ → List ℕ
one_more counts k = set counts k (get_or counts k 0 + 1)

-- a count for each number below `size`: each of the first n values of a rule counts for itself
unfoldable pub counts_of : ℕ → (ℕ → ℕ) → ℕ → List ℕ
counts_of size rule zero = replicate size 0
counts_of size rule (suc n) = one_more (counts_of size rule n) (rule n)

-- the smaller and the larger of two numbers
abbrev pub least_of : ℤ → ℤ → ℤ
least_of = int_min

abbrev pub most_of : ℤ → ℤ → ℤ
most_of = int_max

-- smallest and largest: of one number, and of two ranges together
abbrev pub only : ℤ → Range
only z = record { min = z; max = z }

unfoldable pub both : Range → Range → Range
both a b = record { min = least_of a.min b.min; max = most_of a.max b.max }

unfoldable pub both_extents : Extent → Extent → Extent
both_extents a b = record { x = both a.x b.x; y = both a.y b.y; z = both a.z b.z }

-- of n points: the first, and then each with those before it
unfoldable pub extents_of : (ℕ → Extent) → ℕ → Extent
extents_of rule zero = rule 0
extents_of rule (suc n) = both_extents (extents_of rule n) (rule n)

-- "With no points at all there are no smallest and largest."
abbrev pub bounds_of : (ℕ → Extent) → ℕ → Option Extent
bounds_of rule zero = None
bounds_of rule (suc n) = Some (extents_of rule (suc n))

-- what a record says: its class and its return number, by whether its format is extended, and its X, Y and Z, each by itself
abbrev pub class_in : Bool → List ℕ → ℕ
class_in e r = class_of (flags_at e 14 r)

abbrev pub return_in : Bool → List ℕ → ℕ
return_in e r = return_number_of (flags_at e 14 r)

unfoldable pub extent_in : List ℕ → Extent
extent_in r = record { x = only (to_z w32 (num 4 0 r)); y = only (to_z w32 (num 4 4 r)); z = only (to_z w32 (num 4 8 r)) }

-- record i of those from `first` on, each `stride` bytes after the one before it: as many of its bytes as are looked at
abbrev pub part_at : ℕ → ℕ → List ℕ → ℕ → List ℕ
part_at first stride s i = take 20 (drop (first + i * stride) s)

unfoldable pub tallied_at : Bool → ℕ → ℕ → ℕ → List ℕ → Tally
tallied_at e first stride n s =
    record {
      points = n;
      classes = counts_of 256 (λ i. class_in e (part_at first stride s i)) n;
      returns = counts_of 16 (λ i. return_in e (part_at first stride s i)) n;
      bounds = bounds_of (λ i. extent_in (part_at first stride s i)) n;
    }
