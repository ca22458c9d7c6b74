-- Two files in either order: the same sums, the same bounds, and no total is over in one order only.
use Rattle.std.specs.Prelude.{Option, Some, None, Result, Ok, Err, ℕ, ◌+◌, ◌<◌, ◌≡◌, Bool, true, false, List, [], ◌∷◌}
use Rattle.refusal.specs.Refused.{at_record}
use Rattle.refusal.specs.declared.Refused.{Refused}
use Rattle.sheet_count.specs.declared.Extent.{Extent}
use Rattle.std.proofs.Math.Path.{refl, ap, sym}
use Rattle.std.proofs.Common.{subst, ◌∙◌, arith}
use Rattle.std.proofs.Math.ListN.{get_or}
use Rattle.refusal.specs.declared.Refusal.{Refusal}
use Rattle.refusal.specs.declared.Refusal.TheVariants.{TotalTooLarge}
use Rattle.walker.specs.Begin.{begin_of}
use Rattle.sheet_count.specs.declared.Tally.{Tally}
use Rattle.sheet_count.specs.File.{tally_of}
use Rattle.sheet_count.specs.Theorems.{each-class, each_return}
use Rattle.sheet_count.specs.Spans.{extents_order, extents_swap}
use Rattle.sheet.specs.declared.Sheet.{Sheet}
use Rattle.sheet.specs.Sheet.{Added, both_bounds, sums, totals_fit, grown_by, added_of}
use Rattle.sheet.specs.Fold.{of_class, of_return, points_of, after, NoneTooLarge, Order, same, swapped, behind, then}
use Rattle.sheet.specs.Steps.{tally_in, check_refuses, adds, over_refuses, Sized, sums_at, tally_sized, grown-sized, added_sized}
use Rattle.sheet.specs.Exact.{Totals, totals-fit, fit_totals}

sums_order : (a b c : List ℕ) → sums (sums a b) c ≡ sums (sums a c) b
unfolding sums
sums_order [] b c = refl
sums_order (x ∷ a) [] [] = refl
sums_order (x ∷ a) [] (z ∷ c) = refl
sums_order (x ∷ a) (y ∷ b) [] = refl
sums_order (x ∷ a) (y ∷ b) (z ∷ c) =
    let e : x + y + z ≡ x + z + y = omega arith in
    λ i. e i ∷ sums_order a b c i

bounds_order : (a b c : Option Extent) → both_bounds (both_bounds a b) c ≡ both_bounds (both_bounds a c) b
bounds_order None None None = refl
bounds_order None None (Some z) = refl
bounds_order None (Some y) None = refl
bounds_order None (Some y) (Some z) = ap Some (extents_swap y z)
bounds_order (Some x) None None = refl
bounds_order (Some x) None (Some z) = refl
bounds_order (Some x) (Some y) None = refl
bounds_order (Some x) (Some y) (Some z) = ap Some (extents_order x y z)

pub grown_order : (h : Sheet) (t u : Tally) → grown_by (grown_by h t) u ≡ grown_by (grown_by h u) t
unfolding grown_by
grown_order h t u =
    let points : h.points + t.points + u.points ≡ h.points + u.points + t.points = omega arith in
    λ i. record {
      files = h.files + 1 + 1;
      points = points i;
      bounds = bounds_order h.bounds t.bounds u.bounds i;
      classes = sums_order h.classes t.classes u.classes i;
      returns = sums_order h.returns t.returns u.returns i;
    }

-- what the sheet with one file more holds
module _ (allowance : ℕ) (h : Sheet) (z : Sized h) (s : List ℕ) where
  abbrev with_one : Sheet
  with_one = grown_by h (tally_in allowance s)

  pub files_one : with_one.files ≡ h.files + 1
  unfolding grown_by
  files_one = refl

  pub points-one : with_one.points ≡ h.points + points_of allowance s
  unfolding grown_by tally_of
  points-one = refl

  pub class-one : (k : ℕ) → k < 256 → get_or with_one.classes k 0 ≡ get_or h.classes k 0 + of_class allowance k s
  unfolding grown_by
  class-one k l =
      sums_at h.classes (tally_in allowance s).classes k (z.classes ∙ sym (tally_sized allowance s).0)
      ∙ ap (λ (n : ℕ). get_or h.classes k 0 + n) (each-class (begin_of allowance s) s k l)

  pub return_one : (k : ℕ) → k < 16 → get_or with_one.returns k 0 ≡ get_or h.returns k 0 + of_return allowance k s
  unfolding grown_by
  return_one k l =
      sums_at h.returns (tally_in allowance s).returns k (z.returns ∙ sym (tally_sized allowance s).1)
      ∙ ap (λ (n : ℕ). get_or h.returns k 0 + n) (each_return (begin_of allowance s) s k l)

-- where t fits after s, t fits before it, and s after t
module _ (allowance : ℕ) (h : Sheet) (z : Sized h) (s t : List ℕ) (f : Totals allowance (grown_by h (tally_in allowance s)) t) where
  before : Totals allowance h t
  before =
      record {
        files = omega (arith, f.files, files_one allowance h z s);
        points = omega (arith, f.points, points-one allowance h z s);
        classes = λ k l. omega (arith, f.classes k l, class-one allowance h z s k l);
        returns = λ k l. omega (arith, f.returns k l, return_one allowance h z s k l);
      }

  behind_other : Totals allowance (grown_by h (tally_in allowance t)) s
  behind_other =
      record {
        files = omega (arith, f.files, files_one allowance h z s, files_one allowance h z t);
        points = omega (arith, f.points, points-one allowance h z s, points-one allowance h z t);
        classes = λ k l. omega (arith, f.classes k l, class-one allowance h z s k l, class-one allowance h z t k l);
        returns = λ k l. omega (arith, f.returns k l, return_one allowance h z s k l, return_one allowance h z t k l);
      }

-- a file is not refused with 50
abbrev Within : ℕ → Sheet → List ℕ → Type 0
Within allowance h s = (added_of allowance h s).0 ≡ Err (at_record TotalTooLarge 0) → ⊥

fits : (allowance : ℕ) (h : Sheet) (s : List ℕ) → (begin_of allowance s).start ≡ (Ok tt) → Within allowance h s → totals_fit h (tally_in allowance s) ≡ true
fits allowance h s accepted within = go (totals_fit h (tally_in allowance s)) refl
  where
    go : (b : Bool) → totals_fit h (tally_in allowance s) ≡ b → b ≡ true
    go true e = refl
    go false e = absurd (within (ap (λ (a : Added). a.0) (over_refuses allowance h s accepted e)))

-- the sheet after s and then t, and after t and then s; and in the second order nothing is refused with 50 either
pub record Either (allowance : ℕ) (h : Sheet) (s t : List ℕ) : Type 0 where
  pub alike : (added_of allowance (added_of allowance h s).1 t).1 ≡ (added_of allowance (added_of allowance h t).1 s).1
  pub second : Within allowance h t
  pub first : Within allowance (added_of allowance h t).1 s

abbrev sheet_of : Added → Sheet
sheet_of a = a.1

abbrev answer_of : Added → Result Unit Refused
answer_of a = a.0

module _ (allowance : ℕ) (h : Sheet) (z : Sized h) (s t : List ℕ) (one : Within allowance h s) (two : Within allowance (added_of allowance h s).1 t) where
  abbrev S : Tally
  S = tally_in allowance s

  abbrev T : Tally
  T = tally_in allowance t

  abbrev plus : Sheet → List ℕ → Added
  plus g u = added_of allowance g u

  first-refused : {r : Refusal} {k : ℕ} → (begin_of allowance s).start ≡ Err (at_record r k) → Either allowance h s t
  first-refused x =
      let kept = ap sheet_of (check_refuses allowance h s x) in
      let again = check_refuses allowance (plus h t).1 s x in
      record {
        alike = ap (λ (g : Sheet). (plus g t).1) kept ∙ sym (ap sheet_of again);
        second = subst (λ (g : Sheet). Within allowance g t) kept two;
        first = λ e. one (ap answer_of (check_refuses allowance h s x) ∙ sym (ap answer_of again) ∙ e);
      }

  second_refused : {r : Refusal} {k : ℕ} → (begin_of allowance t).start ≡ Err (at_record r k) → Either allowance h s t
  second_refused y =
      let kept = ap sheet_of (check_refuses allowance h t y) in
      let again = check_refuses allowance (plus h s).1 t y in
      record {
        alike = ap sheet_of again ∙ sym (ap (λ (g : Sheet). (plus g s).1) kept);
        second = λ e. two (ap answer_of again ∙ sym (ap answer_of (check_refuses allowance h t y)) ∙ e);
        first = subst (λ (g : Sheet). Within allowance g s) (sym kept) one;
      }

  both_added : (begin_of allowance s).start ≡ (Ok tt) → (begin_of allowance t).start ≡ (Ok tt) → Either allowance h s t
  both_added x y =
      let with_s = adds allowance h s x (fits allowance h s x one) in
      let then_t = fits allowance (grown_by h S) t y (subst (λ (g : Sheet). Within allowance g t) (ap sheet_of with_s) two) in
      let room = totals-fit allowance (grown_by h S) t (grown-sized allowance s h z) then_t in
      let with_t = adds allowance h t y (fit_totals allowance h t z (before allowance h z s t room)) in
      let then_s = fit_totals allowance (grown_by h T) s (grown-sized allowance t h z) (behind_other allowance h z s t room) in
      let last = adds allowance (grown_by h T) s x then_s in
      record {
        alike =
            ap (λ (g : Sheet). (plus g t).1) (ap sheet_of with_s) ∙ ap sheet_of (adds allowance (grown_by h S) t y then_t)
            ∙ grown_order h S T ∙ sym (ap (λ (g : Sheet). (plus g s).1) (ap sheet_of with_t) ∙ ap sheet_of last);
        second = λ e. let told = ap answer_of with_t in let z : ◌≡◌ {A = ℕ} 0 1 = cc in omega arith;
        first = subst (λ (g : Sheet). Within allowance g s) (sym (ap sheet_of with_t)) (λ e. let told = ap answer_of last in let z : ◌≡◌ {A = ℕ} 0 1 = cc in omega arith);
      }

  pub either : Either allowance h s t
  either = go (begin_of allowance s).start refl (begin_of allowance t).start refl
    where
      go : (x : Result Unit Refused) → (begin_of allowance s).start ≡ x → (y : Result Unit Refused) → (begin_of allowance t).start ≡ y → Either allowance h s t
      go (Err err) x y e = first-refused x
      go (Ok a) x (Err err) y = second_refused y
      go (Ok a) x (Ok b) y = both_added x y

-- and so in any order
pub ordered : (allowance : ℕ) (h : Sheet) → Sized h → {files others : List (List ℕ)} → Order files others → NoneTooLarge allowance h files → (after allowance h files ≡ after allowance h others) × NoneTooLarge allowance h others
ordered allowance h z same none = (refl, none)
ordered allowance h z (swapped {s} {t} {files}) (one, (two, rest)) =
    let e = either allowance h z s t one two in (
      ap (λ (g : Sheet). after allowance g files) e.alike,
      (e.second, (e.first, subst (λ (g : Sheet). NoneTooLarge allowance g files) e.alike rest)),
    )
ordered allowance h z (behind {s} o) (one, rest) =
    let r = ordered allowance (added_of allowance h s).1 (added_sized allowance s h z) o rest in
    (r.0, (one, r.1))
ordered allowance h z (then o p) none =
    let a = ordered allowance h z o none in
    let b = ordered allowance h z p a.1 in
    (a.0 ∙ b.0, b.1)
