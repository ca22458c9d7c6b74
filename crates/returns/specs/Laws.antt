-- Laws of the return numbers: how large they are, how a record adds to them, and that the points of a survey end in the file.
use Rattle.std.specs.Prelude.{Result, Ok, Err}
use Rattle.rules.specs.declared.NotAccepted.{NotAccepted}
use Prim.Native.Nat.{ℕ, zero, suc, ◌+◌, ◌*◌, ◌-◌, ◌≤◌, ◌<◌}
use Rattle.std.specs.Prelude.{◌≡◌, Bool, true, false, cond, List, ◌++◌, eqb, length, take, drop, get_or}
use Rattle.std.proofs.Math.Path.{refl, ap}
use Rattle.std.proofs.Common.{drop-drop, ◌∙◌, add-suc, suc-add, add-zero, zero-add, take-take}
use native.Mathlib.Omega.{arith}
use Rattle.std.proofs.Math.Nat.{suc-mul}
use Rattle.std.proofs.Math.Seq.{take-append_seam, drop-append_seam}
use Rattle.le.specs.Laws.{drop-take}
use Rattle.format.specs.Fields.{record_bytes}
use Rattle.format.specs.Laws.{when-le}
use Rattle.file.specs.Rules.{checked_of}
use Rattle.file.specs.Points.{format_long}
use Rattle.file.specs.Theorems.{accepted-holds}
use Rattle.walker.specs.Begin.{begin_of}
use Rattle.walker.specs.Accepted.{begins, begins_refused}
use Rattle.returns.specs.declared.Survey.{Survey}
use Rattle.returns.specs.Returns.{mark_of, odd_in, have_of, odd_of, values_of, counted_of, survey_at}

-- a return number has four bits at most
pub number_small : (extended : Bool) (s : List ℕ) → (mark_of extended s).number < 16
unfolding mark_of
number_small true s = omega arith
number_small false s = omega arith

-- the values of a rule
pub length_values : (f : ℕ → ℕ) (i k : ℕ) → length (values_of f i k) ≡ k
unfolding values_of
length_values f i zero = refl
length_values f i (suc k) = ap suc (length_values f (suc i) k)

pub value-at : (f : ℕ → ℕ) (i k j : ℕ) → j < k → get_or (values_of f i k) j 0 ≡ f (i + j)
unfolding values_of
value-at f i zero j h = absurd (omega arith)
value-at f i (suc k) zero h = rw add-zero
value-at f i (suc k) (suc j) h = rw (add-suc, ← suc-add) (value-at f (suc i) k j (omega arith))

module _ (e : Bool) (m : ℕ) where
  -- no more records have a return number, or an odd one, than there are
  pub have_most : (r n : ℕ) (s : List ℕ) → have_of e m r n s ≤ n
  unfolding have_of
  have_most r zero s = omega arith
  have_most r (suc n) s = omega (arith, when-le (eqb (mark_of e (take m s)).number r) 1, have_most r n (drop m s))

  pub odd_most : (n : ℕ) (s : List ℕ) → odd_of e m n s ≤ n
  unfolding odd_of
  odd_most zero s = omega arith
  odd_most (suc n) s = omega (arith, when-le (odd_in e (take m s)) 1, odd_most n (drop m s))

  -- one record, and the rest of them
  module _ (at : ℕ) (s : List ℕ) where
    pub odd_step : (left : ℕ) → 0 < left → odd_of e m left (drop at s) ≡ cond (odd_in e (take (at + m - at) (drop at s))) 1 0 + odd_of e m (left - 1) (drop (at + m) s)
    unfolding odd_of
    odd_step zero h = absurd (omega arith)
    odd_step (suc k) h =
        let less : suc k - 1 ≡ k = omega arith in
        let cut : at + m - at ≡ m = omega arith in
        rw (less, cut, drop-drop m at s)

    pub have_step : (r left : ℕ) → 0 < left → have_of e m r left (drop at s) ≡ cond (eqb (mark_of e (take (at + m - at) (drop at s))).number r) 1 0 + have_of e m r (left - 1) (drop (at + m) s)
    unfolding have_of
    have_step r zero h = absurd (omega arith)
    have_step r (suc k) h =
        let less : suc k - 1 ≡ k = omega arith in
        let cut : at + m - at ≡ m = omega arith in
        rw (less, cut, drop-drop m at s)

  -- the same of a record and what stands after it
  module _ (one rest : List ℕ) (long : length one ≡ m) where
    front : take m (one ++ rest) ≡ one
    front = rw (← long) (take-append_seam one rest)

    behind : drop m (one ++ rest) ≡ rest
    behind = rw (← long) (drop-append_seam one rest)

    pub odd_split : (left : ℕ) → 0 < left → odd_of e m left (one ++ rest) ≡ cond (odd_in e one) 1 0 + odd_of e m (left - 1) rest
    unfolding odd_of
    odd_split zero h = absurd (omega arith)
    odd_split (suc k) h =
        let less : suc k - 1 ≡ k = omega arith in
        rw (less, front, behind)

    pub have_split : (r left : ℕ) → 0 < left → have_of e m r left (one ++ rest) ≡ cond (eqb (mark_of e one).number r) 1 0 + have_of e m r (left - 1) rest
    unfolding have_of
    have_split r zero h = absurd (omega arith)
    have_split r (suc k) h =
        let less : suc k - 1 ≡ k = omega arith in
        rw (less, front, behind)

  -- only the bytes of the records count
  pub odd-first : (n : ℕ) (s : List ℕ) → odd_of e m n (take (n * m) s) ≡ odd_of e m n s
  unfolding odd_of
  odd-first zero s = refl
  odd-first (suc n) s =
      let less : suc n * m - m ≡ n * m = rw suc-mul (omega arith) in
      rw (take-take m (suc n * m) s (rw suc-mul (omega arith)), drop-take m (suc n * m) s, less, odd-first n (drop m s))

  pub have-first : (r n : ℕ) (s : List ℕ) → have_of e m r n (take (n * m) s) ≡ have_of e m r n s
  unfolding have_of
  have-first r zero s = refl
  have-first r (suc n) s =
      let less : suc n * m - m ≡ n * m = rw suc-mul (omega arith) in
      rw (take-take m (suc n * m) s (rw suc-mul (omega arith)), drop-take m (suc n * m) s, less, have-first r n (drop m s))

-- the points of an accepted file end in it
pub begun_end : (allowance : ℕ) (s : List ℕ) → (let p = begin_of allowance s in p.start ≡ (Ok tt) → p.at + p.count * record_bytes p.format ≤ length s)
begun_end allowance s accepted = go (checked_of allowance s) refl
  where
    go : (x : Result ℕ NotAccepted) → checked_of allowance s ≡ x → (let p = begin_of allowance s in p.at + p.count * record_bytes p.format ≤ length s)
    go (Ok n) e =
        let (f, at, count, is) = begins allowance s e in
        let holds = accepted-holds allowance s e in
        rw (f, at, count, format_long allowance s holds) holds.parts.points-within
    go (Err err) e = let no = begins_refused allowance s e in let z : ◌≡◌ {A = ℕ} 0 1 = cc in absurd (omega arith)

-- what a survey says of its points
module _ (e : Bool) (at m n : ℕ) (s : List ℕ) where
  abbrev v : Survey
  v = survey_at e at m n s

  pub survey_points : (v.extended ≡ e) × (v.at ≡ at) × (v.each ≡ m) × (v.count ≡ n)
  unfolding survey_at
  survey_points = (refl, refl, refl, refl)

  pub survey_odd : v.returns.odd ≡ odd_of e m n (drop at s)
  unfolding survey_at counted_of
  survey_odd = refl

  pub survey_number : (r : ℕ) → r < 16 → get_or v.returns.numbers r 0 ≡ have_of e m r n (drop at s)
  unfolding survey_at counted_of
  survey_number r h = value-at (λ i. have_of e m i n (drop at s)) 0 16 r h ∙ ap (λ (i : ℕ). have_of e m i n (drop at s)) (zero-add r)
