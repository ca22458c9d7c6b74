-- Return numbers: document 02, No. 12, "counts by return unlike the records; a return number of zero or above the number of returns".
use Rattle.std.specs.Prelude.{Result, Ok, Err}
use Rattle.refusal.specs.declared.Refused.{Refused}
use Rattle.std.specs.Prelude.{ℕ, zero, suc, ◌+◌, Bool, cond, ◌||◌, List, [], ◌∷◌, eqb, ltb, take, drop}
use Rattle.le.specs.Le.{num}
use Rattle.format.specs.Fields.{record_bytes}
use Rattle.flags.specs.Readings.{low, field}
use Rattle.walker.specs.declared.Place.{Place}
use Rattle.walker.specs.Begin.{begin_of}
use Rattle.returns.specs.declared.Mark.{Mark}
use Rattle.returns.specs.declared.Counted.{Counted}
use Rattle.returns.specs.declared.Survey.{Survey}

abbrev pub mark : ℕ → ℕ → Mark
mark number of = record { number = number; «of» = of }

-- LAS 1.4 R15, point data record formats 0 and 6: the return number and the number of returns are bits 0 to 3 and 4 to 7 of byte 14 in formats 6
-- to 10, bits 0 to 2 and 3 to 5 of it in formats 0 to 5
unfoldable pub mark_of : Bool → List ℕ → Mark
mark_of extended s = let b = num 1 14 s in cond extended (mark (low 4 b) (field 4 4 b)) (mark (low 3 b) (field 3 3 b))

-- "zero or above the number of returns"
abbrev pub is_odd : Mark → Bool
is_odd m = eqb m.number 0 || ltb m.«of» m.number

unfoldable pub odd_in : Bool → List ℕ → Bool
odd_in extended s = is_odd (mark_of extended s)

-- of n records of m bytes, one after the other:
module _ (extended : Bool) (m : ℕ) where
  -- how many have return number r
  unfoldable pub have_of : ℕ → ℕ → List ℕ → ℕ
  have_of r zero s = 0
  have_of r (suc n) s = cond (eqb (mark_of extended (take m s)).number r) 1 0 + have_of r n (drop m s)

  -- how many have one that is zero or above the number of returns
  unfoldable pub odd_of : ℕ → List ℕ → ℕ
  odd_of zero s = 0
  odd_of (suc n) s = cond (odd_in extended (take m s)) 1 0 + odd_of n (drop m s)

-- k values of a rule, from i on
unfoldable pub values_of : (ℕ → ℕ) → ℕ → ℕ → List ℕ
values_of f i zero = []
values_of f i (suc k) = f i ∷ values_of f (suc i) k

-- how many have each return number, 0 to 15, and how many an odd one
unfoldable pub counted_of : Bool → ℕ → ℕ → List ℕ → Counted
counted_of extended m n s = record { numbers = values_of (λ r. have_of extended m r n s) 0 16; odd = odd_of extended m n s }

-- n records of m bytes that start at a place of s
unfoldable pub survey_at : Bool → ℕ → ℕ → ℕ → List ℕ → Survey
survey_at extended at m n s = record { extended = extended; at = at; each = m; count = n; returns = counted_of extended m n (drop at s) }

-- the points where a walker begins; of a file that is refused, none
abbrev pub survey_by : Place → List ℕ → Result Unit Refused → Survey
survey_by p s (Ok tt) = survey_at p.format.is_extended p.at (record_bytes p.format) p.count s
survey_by p s (Err err) = survey_at p.format.is_extended 0 (record_bytes p.format) 0 s

unfoldable pub survey_of : ℕ → List ℕ → Survey
survey_of allowance s = survey_by (begin_of allowance s) s (begin_of allowance s).start
