-- One record, and the rest of them: a turn of the count.
use Prim.Native.Nat.{ℕ, zero, suc, ◌+◌, ◌-◌, ◌*◌, ◌≤◌, ◌<◌}
use mathlib.Core.Path.{◌≡◌, refl}
use mathlib.Core.Bool.{cond}
use mathlib.Core.List.{List, ◌++◌}
use native.Mathlib.Nat.{zero-mul, suc-mul}
use native.Mathlib.Omega.{arith}
use lib.Dec.{eqb}
use lib.ListN.{length}
use lib.Seq.{take-append_seam, drop-append_seam}
use Rattle.format.specs.declared.Format.{Format}
use Rattle.format.specs.Fields.{record_bytes}
use Rattle.tally.specs.Tally.{return_in, count_of}
use Rattle.tally.specs.Laws.{count_most}

-- where there is a record, some are left
pub some_left : (left m k : ℕ) → left * m ≡ m + k → 0 < m → 0 < left
some_left zero m k e some = absurd (omega (arith, e, zero-mul m))
some_left (suc left) m k e some = omega arith

-- and where there is not, none
pub no_more : (left m : ℕ) → left * m < m → left ≡ 0
no_more zero m h = refl
no_more (suc left) m h = absurd (omega (arith, h, suc-mul left m))

module _ (f : Format) (n : ℕ) (s : List ℕ) where
  -- the sum so far, and what is to be counted of the rest
  abbrev pub Sum : ℕ → ℕ → ℕ → List ℕ → Type 0
  Sum r sum left rest = sum + count_of f r left rest ≡ count_of f r n s

  -- a record first, and the rest behind it
  module _ (one_record rest : List ℕ) (long : length one_record ≡ record_bytes f) where
    count-step : (r left : ℕ) → 0 < left → count_of f r left (one_record ++ rest) ≡ cond (eqb (return_in f one_record) r) 1 0 + count_of f r (left - 1) rest
    unfolding count_of
    count-step r zero h = absurd (omega arith)
    count-step r (suc k) h =
        let e : suc k - 1 ≡ k = omega arith in
        rw (e, ← long, take-append_seam one_record rest, drop-append_seam one_record rest)

    -- `x` is the record's return number, `one` what it adds to the sum so far
    module _ (r left sum x one : ℕ) (more : 0 < left) (read : x ≡ return_in f one_record) (e : one ≡ cond (eqb x r) 1 0) (so_far : Sum r sum left (one_record ++ rest)) where
      pub turn : Sum r (sum + one) (left - 1) rest
      turn = rw (e, read) (omega (arith, count-step r left more, so_far))

      pub small : sum + one ≤ n
      small = omega (arith, turn, count_most f r n s)

  -- no record is left
  pub none_left : (r sum : ℕ) (rest : List ℕ) → Sum r sum 0 rest → sum ≡ count_of f r n s
  unfolding count_of
  none_left r sum rest e = omega (arith, e)
