-- One file's counts: document 02, No. 9, "points for each class, for each return number including zero, smallest and largest X, Y and Z as the
-- stored whole numbers", "counted from the records".
use Rattle.std.specs.Prelude.{Option, Some, None, Ok, ◌≡◌, refl, Bool, true, false, List, ◌⊎◌, ltb, ℤ, get_or, take, drop}
use Prim.Native.Nat.{ℕ, zero, suc, ◌+◌, ◌*◌, ◌<◌}
use Rattle.std.proofs.Common.{ap, ◌∙◌, ltb-true, ltb-false}
use Rattle.std.proofs.Math.Path.{sym, subst}
use Rattle.std.proofs.Math.Logic.{inl, inr}
use native.Mathlib.Omega.{arith}
use Rattle.std.specs.Borrow.{Bor}
use Rattle.le.specs.Le.{Bytes}
use Rattle.le.specs.Laws.{num-lt, bytes_take, bytes_drop}
use Rattle.format.specs.declared.Format.{Format}
use Rattle.format.specs.Fields.{record_bytes}
use Rattle.flags.specs.Readings.{class_of, return_number_of}
use Rattle.point.specs.declared.Point as point
use Rattle.point.specs.Read.{point_of}
use Rattle.point.specs.Kind.{new_flags, old_flags}
use Rattle.header.specs.Judged.{header_in}
use Rattle.outline.specs.Outline.{outline_of}
use Rattle.file.specs.Rules.{checked_of}
use Rattle.walker.specs.declared.Place.{Place}
use Rattle.walker.specs.Begin.{first_place, begin_of, walker_of}
use Rattle.walker.specs.Steps.{answer_of, gives}
use Rattle.walker.specs.Accepted.{first_of, at_first, ready}
use Rattle.column.specs.declared.Axis.{Axis}
use Rattle.column.specs.declared.Axis.TheVariants.{X, Y, Z}
use Rattle.sheet_count.specs.declared.Range.{Range}
use Rattle.sheet_count.specs.declared.Extent.{Extent}
use Rattle.sheet_count.specs.Count.{both, both_extents, extents_of, bounds_of}
use Rattle.sheet_count.specs.File.{point_at, class_at, return_at, extent_at, tally_of}
use Rattle.sheet_count.specs.Totals.{count_of, total, each-counted, all-counted}
use Rattle.sheet_count.specs.Spans.{Spans, spans_only, spans_both, spans_same}

-- What is counted is what the walker gives: its answer i, from 0, is point i.
pub as_walked : (allowance : ℕ) (file : Bor (List ℕ)) {n : ℕ} → checked_of allowance file.now ≡ Ok n → Bytes file.now → (i : ℕ) → i < (begin_of allowance file.now).count → answer_of i (walker_of allowance file) ≡ Ok (point_at (begin_of allowance file.now) file.now i)
unfolding begin_of first_place
as_walked allowance file {n} accepted bytes i h =
    let first : begin_of allowance file.now ≡ first_place (outline_of (header_in file.now)) = rw accepted in
    let inside = rw accepted at h in
    ap (answer_of i) (at_first allowance file n accepted)
    ∙ gives i (first_of file) (ready allowance file n accepted bytes) inside
    ∙ ap (λ (q : Place). Ok (point_at q file.now i)) (sym first)

module _ (p : Place) (s : List ℕ) where
  -- "points for each class", 0 to 255: how many of the points have it;
  pub each-class : (k : ℕ) → k < 256 → get_or (tally_of p s).classes k 0 ≡ count_of (class_at p s) p.count k
  unfolding tally_of
  each-class k h = each-counted 256 (class_at p s) p.count k h

  -- "for each return number including zero", 0 to 15.
  pub each_return : (k : ℕ) → k < 16 → get_or (tally_of p s).returns k 0 ≡ count_of (return_at p s) p.count k
  unfolding tally_of
  each_return k h = each-counted 16 (return_at p s) p.count k h

-- no class is above 255, and no return number above 15
class_below : (f : Format) (r : List ℕ) → Bytes r → class_of (point_of f r).flags < 256
class_below f r bytes = go f.is_extended refl
  where
    go : (b : Bool) → f.is_extended ≡ b → class_of (point_of f r).flags < 256
    go true e = rw (new_flags f r e) (omega (arith, num-lt 1 r 16 bytes))
    go false e = rw (old_flags f r e) (omega arith)

return_below : (f : Format) (r : List ℕ) → return_number_of (point_of f r).flags < 16
return_below f r = go f.is_extended refl
  where
    go : (b : Bool) → f.is_extended ≡ b → return_number_of (point_of f r).flags < 16
    go true e = rw (new_flags f r e) (omega arith)
    go false e = rw (old_flags f r e) (omega arith)

-- "Classes must add up to the points, and so must returns."
pub classes_add-up : (p : Place) (s : List ℕ) → Bytes s → total (tally_of p s).classes ≡ (tally_of p s).points
unfolding tally_of
classes_add-up p s bytes =
    let m = record_bytes p.format in
    all-counted 256 (class_at p s) p.count (λ i. class_below p.format (take m (drop (p.at + i * m) s)) (bytes_take m (drop (p.at + i * m) s) (bytes_drop (p.at + i * m) s bytes)))

pub returns-add-up : (p : Place) (s : List ℕ) → total (tally_of p s).returns ≡ (tally_of p s).points
unfolding tally_of
returns-add-up p s =
    let m = record_bytes p.format in
    all-counted 16 (return_at p s) p.count (λ i. return_below p.format (take m (drop (p.at + i * m) s)))

-- X, Y or Z, of a point and of an extent
abbrev pub of : Axis → point.Point → ℤ
of X q = q.x
of Y q = q.y
of Z q = q.z

abbrev pub on : Axis → Extent → Range
on X e = e.x
on Y e = e.y
on Z e = e.z

-- z is one of the first n values of a rule
abbrev pub Among : (ℕ → ℤ) → ℕ → ℤ → Type 0
Among rule n z = (i : ℕ) × (i < n) × (rule i ≡ z)

-- bounds of n points whose numbers on each axis are those that P holds of: none "with no points at all", and else on each axis one of them
-- is the smallest and one the largest
abbrev pub Bounded : Option Extent → ℕ → (Axis → ℤ → Type 0) → Type 0
Bounded None n P = (n ≡ 0) × ((a : Axis) (z : ℤ) → P a z → ⊥)
Bounded (Some e) n P = (0 < n) × ((a : Axis) → Spans (P a) (on a e))

pub on_both : (a : Axis) (e g : Extent) → on a (both_extents e g) ≡ both (on a e) (on a g)
unfolding both_extents
on_both X e g = refl
on_both Y e g = refl
on_both Z e g = refl

module _ (p : Place) (s : List ℕ) (a : Axis) where
  abbrev number : ℕ → ℤ
  number i = of a (point_at p s i)

  one : (i : ℕ) → Spans (λ z. z ≡ number i) (on a (extent_at p s i))
  one i = by a
    where
      by : (a : Axis) → Spans (λ z. z ≡ of a (point_at p s i)) (on a (extent_at p s i))
      by X = spans_only (point_at p s i).x
      by Y = spans_only (point_at p s i).y
      by Z = spans_only (point_at p s i).z

  -- the first, and those before n
  spans_first : (n : ℕ) → Spans (λ z. (z ≡ number 0) ⊎ Among number n z) (on a (extents_of (extent_at p s) n))
  unfolding extents_of
  spans_first zero = spans_same (λ z e. inl e) (λ z some. alone z some) (one 0)
    where
      alone : (z : ℤ) → (z ≡ number 0) ⊎ Among number 0 z → z ≡ number 0
      alone z (inl e) = e
      alone z (inr (i, h, e)) = absurd (omega arith)
  spans_first (suc n) =
      subst (Spans (λ z. (z ≡ number 0) ⊎ Among number (suc n) z)) (sym (on_both a (extents_of (extent_at p s) n) (extent_at p s n)))
      (spans_same more fewer (spans_both (on a (extents_of (extent_at p s) n)) (on a (extent_at p s n)) (spans_first n) (one n)))
    where
      more : (z : ℤ) → ((z ≡ number 0) ⊎ Among number n z) ⊎ (z ≡ number n) → (z ≡ number 0) ⊎ Among number (suc n) z
      more z (inl (inl e)) = inl e
      more z (inl (inr (i, h, e))) = inr (i, omega arith, e)
      more z (inr e) = inr (n, omega arith, sym e)

      last : (z : ℤ) (i : ℕ) → i < suc n → number i ≡ z → (b : Bool) → ltb i n ≡ b → ((z ≡ number 0) ⊎ Among number n z) ⊎ (z ≡ number n)
      last z i h e true t = inl (inr (i, ltb-true i n t, e))
      last z i h e false t = let same : i ≡ n = omega (arith, ltb-false i n t) in inr (sym e ∙ ap number same)

      fewer : (z : ℤ) → (z ≡ number 0) ⊎ Among number (suc n) z → ((z ≡ number 0) ⊎ Among number n z) ⊎ (z ≡ number n)
      fewer z (inl e) = inl (inl e)
      fewer z (inr (i, h, e)) = last z i h e (ltb i n) refl

  spans_all : (n : ℕ) → Spans (Among number (suc n)) (on a (extents_of (extent_at p s) (suc n)))
  spans_all n = spans_same gone (λ z some. inr some) (spans_first (suc n))
    where
      gone : (z : ℤ) → (z ≡ number 0) ⊎ Among number (suc n) z → Among number (suc n) z
      gone z (inl e) = (0, omega arith, sym e)
      gone z (inr some) = some

-- "smallest and largest X, Y and Z as the stored whole numbers", and "With no points at all there are no smallest and largest."
pub bounds_hold : (p : Place) (s : List ℕ) → Bounded (tally_of p s).bounds (tally_of p s).points (λ a. Among (λ i. of a (point_at p s i)) p.count)
unfolding tally_of
bounds_hold p s = go p.count
  where
    go : (n : ℕ) → Bounded (bounds_of (extent_at p s) n) n (λ a. Among (λ i. of a (point_at p s i)) n)
    go zero = (refl, λ a z some. omega (arith, some.1))
    go (suc n) = (omega arith, λ a. spans_all p s a n)
