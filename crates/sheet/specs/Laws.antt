-- Laws of totals: of a list of them, one after the other.
use Rattle.std.specs.Prelude.{Ok, Err, ℕ, ◌+◌, ◌^◌, ◌≤◌, ◌<◌, ◌≡◌, true, false, ◌&&◌, List, [], ◌∷◌, ◌++◌, length, take, drop, set, get_or}
use Rattle.refusal.specs.Refused.{at_record}
use Rattle.std.proofs.Common.{ap, add-one, arith, ltb-true, ltb-false, lt-ltb, le-ltb, take-suc-set, drop-set-lt, drop_of_length-le}
use Rattle.std.proofs.Math.Bool.{and-eq-true_iff}
use Rattle.std.proofs.Math.Seq.{drop-cons, append_snoc}
use Rattle.refusal.specs.declared.Refusal.TheVariants.{TotalTooLarge}
use Rattle.sheet_count.specs.declared.Tally.{Tally}
use Rattle.sheet.specs.declared.Sheet.{Sheet}
use Rattle.sheet.specs.Sheet.{fits_in, all_fit, totals_fit, sums, grown_by, added_to}

-- what the test says
pub fits_says : (a b : ℕ) → fits_in a b ≡ true → a + b < 2 ^ 64
unfolding fits_in
fits_says a b e = ltb-true (a + b) (2 ^ 64) e

pub fits_not : (a b : ℕ) → fits_in a b ≡ false → 2 ^ 64 ≤ a + b
unfolding fits_in
fits_not a b e = ltb-false (a + b) (2 ^ 64) e

pub says_fits : (a b : ℕ) → a + b < 2 ^ 64 → fits_in a b ≡ true
unfolding fits_in
says_fits a b h = lt-ltb (a + b) (2 ^ 64) h

pub not-fits : (a b : ℕ) → 2 ^ 64 ≤ a + b → fits_in a b ≡ false
unfolding fits_in
not-fits a b h = le-ltb (a + b) (2 ^ 64) h

-- from place i on: the number there, and those past it
module _ (a b : List ℕ) (i : ℕ) (in_a : i < length a) (in_b : i < length b) where
  pub all_fit_step : all_fit (drop i a) (drop i b) ≡ (fits_in (get_or a i 0) (get_or b i 0) && all_fit (drop (i + 1) a) (drop (i + 1) b))
  unfolding all_fit
  all_fit_step = rw (add-one i, drop-cons a i 0 in_a, drop-cons b i 0 in_b)

  pub sums-step : sums (drop i a) (drop i b) ≡ (get_or a i 0 + get_or b i 0) ∷ sums (drop (i + 1) a) (drop (i + 1) b)
  unfolding sums
  sums-step = rw (add-one i, drop-cons a i 0 in_a, drop-cons b i 0 in_b)

  -- one number added, the rest still to be
  pub sums_turn : take (i + 1) (set a i (get_or a i 0 + get_or b i 0)) ++ sums (drop (i + 1) (set a i (get_or a i 0 + get_or b i 0))) (drop (i + 1) b) ≡ take i a ++ sums (drop i a) (drop i b)
  sums_turn =
      let v = get_or a i 0 + get_or b i 0 in
      rw (sums-step, drop-set-lt (i + 1) a i v (omega arith), ap (λ (k : ℕ). take k (set a i v)) (add-one i), take-suc-set a i v in_a)
      (append_snoc (take i a) v (sums (drop (i + 1) a) (drop (i + 1) b)))

-- past the end there is nothing
pub all_fit_end : (a b : List ℕ) (i : ℕ) → length a ≤ i → all_fit (drop i a) (drop i b) ≡ true
unfolding all_fit
all_fit_end a b i h = rw (drop_of_length-le a h)

pub sums-end : (a b : List ℕ) (i : ℕ) → length a ≤ i → sums (drop i a) (drop i b) ≡ []
unfolding sums
sums-end a b i h = rw (drop_of_length-le a h)

-- what the test of all says
pub record Fits (h : Sheet) (t : Tally) : Type 0 where
  pub files : h.files + 1 < 2 ^ 64
  pub points : h.points + t.points < 2 ^ 64
  pub classes : all_fit h.classes t.classes ≡ true
  pub returns : all_fit h.returns t.returns ≡ true

pub totals_say : (h : Sheet) (t : Tally) → totals_fit h t ≡ true → Fits h t
unfolding totals_fit
totals_say h t e =
    let one = (and-eq-true_iff (fits_in h.files 1) _).0 e in
    let two = (and-eq-true_iff (fits_in h.points t.points) _).0 one.1 in
    let three = (and-eq-true_iff (all_fit h.classes t.classes) _).0 two.1 in
    record {
      files = fits_says h.files 1 one.0;
      points = fits_says h.points t.points two.0;
      classes = three.0;
      returns = three.1;
    }

-- and what it leads to
module _ (h : Sheet) (t : Tally) where
  pub all_added : totals_fit h t ≡ true → added_to h t ≡ (Ok tt, grown_by h t)
  unfolding added_to
  all_added e = rw e

  pub too_large : totals_fit h t ≡ false → added_to h t ≡ (Err (at_record TotalTooLarge 0), h)
  unfolding added_to
  too_large e = rw e
