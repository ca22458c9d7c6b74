-- Laws of the fold: what each file adds, the files taken add together; and bounds of all are the bounds of what was taken.
use Rattle.std.specs.Prelude.{Option, Some, None, ℕ, ◌+◌, ◌≡◌, refl, List, [], ◌∷◌, ◌↔◌, ◌⊎◌, ℤ}
use Rattle.std.proofs.Math.Path.{sym}
use Rattle.std.proofs.Common.{subst, ◌∙◌, inl, arith}
use Rattle.std.proofs.Math.Logic.{inr}
use Rattle.le.specs.Le.{Bytes}
use Rattle.column.specs.declared.Axis.{Axis}
use Rattle.walker.specs.Begin.{begin_of}
use Rattle.sheet_count.specs.declared.Extent.{Extent}
use Rattle.sheet_count.specs.Totals.{total, total-none}
use Rattle.sheet_count.specs.Spans.{Spans, spans_both, spans_same}
use Rattle.sheet_count.specs.Theorems.{on, on_both, Bounded, bounds_hold, classes_add-up, returns-add-up}
use Rattle.sheet.specs.declared.Sheet.{Sheet}
use Rattle.sheet.specs.Sheet.{Added, empty_sheet, both_bounds, grown_by, added_of}
use Rattle.sheet.specs.Fold.{after, taken_by, taken, InFile, InFiles, sum_over, AllBytes}
use Rattle.sheet.specs.Steps.{tally_in, Step, by_check_lem, by_total, is_added, step, Sized, tally_sized, sums-total, added_sized}

-- a number of the sheet to which each file that is added gives a share
module _ (allowance : ℕ) (number : Sheet → ℕ) (share : List ℕ → ℕ) (adds : (h : Sheet) (s : List ℕ) → Sized h → number (grown_by h (tally_in allowance s)) ≡ number h + share s) where
  one : (h : Sheet) (s : List ℕ) (files : List (List ℕ)) → Sized h → {a : Added} → Step allowance h s a → number (after allowance a.1 files) ≡ number a.1 + sum_over share (taken allowance a.1 files) → number (after allowance a.1 files) ≡ number h + sum_over share (taken_by allowance a.0 s (taken allowance a.1 files))
  one h s files z (by_check_lem e) rest = rest
  one h s files z (by_total e f) rest = rest
  one h s files z (is_added e f) rest = rest ∙ omega (arith, adds h s z)

  pub shares : (h : Sheet) → Sized h → (files : List (List ℕ)) → number (after allowance h files) ≡ number h + sum_over share (taken allowance h files)
  shares h z [] = omega arith
  shares h z (s ∷ files) =
      one h s files z (step allowance h s) (shares (added_of allowance h s).1 (added_sized allowance s h z) files)

  -- from a sheet that has none of it
  pub shares_from : (h : Sheet) → Sized h → number h ≡ 0 → (files : List (List ℕ)) → number (after allowance h files) ≡ sum_over share (taken allowance h files)
  shares_from h z none files = shares h z files ∙ omega arith

-- classes and returns each add up to the points
pub record Balanced (h : Sheet) : Type 0 where
  pub classes : total h.classes ≡ h.points
  pub returns : total h.returns ≡ h.points

pub empty_balanced : Balanced empty_sheet
unfolding empty_sheet
empty_balanced = record { classes = total-none 256; returns = total-none 16 }

module _ (allowance : ℕ) where
  balanced_grown : (h : Sheet) (s : List ℕ) → Sized h → Bytes s → Balanced h → Balanced (grown_by h (tally_in allowance s))
  unfolding grown_by
  balanced_grown h s z bytes b =
      let (c, r) = tally_sized allowance s in
      let p = begin_of allowance s in
      record {
        classes = sums-total h.classes (tally_in allowance s).classes (z.classes ∙ sym c) ∙ omega (arith, b.classes, classes_add-up p s bytes);
        returns = sums-total h.returns (tally_in allowance s).returns (z.returns ∙ sym r) ∙ omega (arith, b.returns, returns-add-up p s);
      }

  balanced_added : (h : Sheet) (s : List ℕ) → Sized h → Bytes s → Balanced h → {a : Added} → Step allowance h s a → Balanced a.1
  balanced_added h s z bytes b (by_check_lem e) = b
  balanced_added h s z bytes b (by_total e f) = b
  balanced_added h s z bytes b (is_added e f) = balanced_grown h s z bytes b

  pub balanced : (h : Sheet) → Sized h → Balanced h → (files : List (List ℕ)) → AllBytes files → Balanced (after allowance h files)
  balanced h z b [] all = b
  balanced h z b (s ∷ files) (bytes, all) =
      balanced (added_of allowance h s).1 (added_sized allowance s h z) (balanced_added h s z bytes b (step allowance h s)) files all

-- bounds of two sets of points are the bounds of both together
pub bounded_both : (P Q : Axis → ℤ → Type 0) (b c : Option Extent) (n m : ℕ) → Bounded b n P → Bounded c m Q → Bounded (both_bounds b c) (n + m) (λ a z. P a z ⊎ Q a z)
bounded_both P Q None None n m (none, p) (nothing, q) = (omega arith, λ a z some. neither a z some)
  where
    neither : (a : Axis) (z : ℤ) → P a z ⊎ Q a z → ⊥
    neither a z (inl h) = p a z h
    neither a z (inr h) = q a z h
bounded_both P Q None (Some y) n m (none, p) (some, q) = (omega arith, λ a. spans_same (λ z h. inr h) (second a) (q a))
  where
    second : (a : Axis) (z : ℤ) → P a z ⊎ Q a z → Q a z
    second a z (inl h) = absurd (p a z h)
    second a z (inr h) = h
bounded_both P Q (Some x) None n m (some, p) (none, q) = (omega arith, λ a. spans_same (λ z h. inl h) (first a) (p a))
  where
    first : (a : Axis) (z : ℤ) → P a z ⊎ Q a z → P a z
    first a z (inl h) = h
    first a z (inr h) = absurd (q a z h)
bounded_both P Q (Some x) (Some y) n m (some, p) (more, q) = (
  omega arith,
  λ a. subst (Spans (λ z. P a z ⊎ Q a z)) (sym (on_both a x y)) (spans_both (on a x) (on a y) (p a) (q a)),
)

pub bounded_same : {P Q : Axis → ℤ → Type 0} (b : Option Extent) (n : ℕ) → ((a : Axis) (z : ℤ) → P a z → Q a z) → ((a : Axis) (z : ℤ) → Q a z → P a z) → Bounded b n P → Bounded b n Q
bounded_same None n to from (none, p) = (none, λ a z h. p a z (from a z h))
bounded_same (Some e) n to from (some, p) = (some, λ a. spans_same (to a) (from a) (p a))

module _ (allowance : ℕ) where
  -- the set of numbers with a file's, and with those of all that were taken
  abbrev With : (Axis → ℤ → Type 0) → List ℕ → Axis → ℤ → Type 0
  With P s a z = P a z ⊎ InFile allowance a s z

  abbrev WithAll : (Axis → ℤ → Type 0) → List (List ℕ) → Axis → ℤ → Type 0
  WithAll P files a z = P a z ⊎ InFiles allowance a files z

  bounded_grown : (P : Axis → ℤ → Type 0) (h : Sheet) (s : List ℕ) → Bounded h.bounds h.points P → (let g = grown_by h (tally_in allowance s) in Bounded g.bounds g.points (With P s))
  unfolding grown_by
  bounded_grown P h s b =
      let t = tally_in allowance s in
      bounded_both P (λ a z. InFile allowance a s z) h.bounds t.bounds h.points t.points b (bounds_hold (begin_of allowance s) s)

  pub bounded : (P : Axis → ℤ → Type 0) (h : Sheet) → Bounded h.bounds h.points P → (files : List (List ℕ)) → (let g = after allowance h files in Bounded g.bounds g.points (WithAll P (taken allowance h files)))
  bounded P h b [] = bounded_same h.bounds h.points (λ a z x. inl x) (λ a z x. left a z x) b
    where
      left : (a : Axis) (z : ℤ) → P a z ⊎ ⊥ → P a z
      left a z (inl x) = x
      left a z (inr x) = absurd x
  bounded P h b (s ∷ files) = go (step allowance h s) (λ g c. bounded P g c files) (λ g c. bounded (With P s) g c files)
    where
      right : (g : Sheet) (a : Axis) (z : ℤ) → WithAll (With P s) (taken allowance g files) a z → WithAll P (s ∷ taken allowance g files) a z
      right g a z (inl (inl x)) = inl x
      right g a z (inl (inr x)) = inr (inl x)
      right g a z (inr x) = inr (inr x)

      back : (g : Sheet) (a : Axis) (z : ℤ) → WithAll P (s ∷ taken allowance g files) a z → WithAll (With P s) (taken allowance g files) a z
      back g a z (inl x) = inl (inl x)
      back g a z (inr (inl x)) = inl (inr x)
      back g a z (inr (inr x)) = inr x

      go : {a : Added} → Step allowance h s a → ((g : Sheet) → Bounded g.bounds g.points P → (let k = after allowance g files in Bounded k.bounds k.points (WithAll P (taken allowance g files)))) → ((g : Sheet) → Bounded g.bounds g.points (With P s) → (let k = after allowance g files in Bounded k.bounds k.points (WithAll (With P s) (taken allowance g files)))) → (let k = after allowance a.1 files in Bounded k.bounds k.points (WithAll P (taken_by allowance a.0 s (taken allowance a.1 files))))
      go (by_check_lem e) without with-file = without h b
      go (by_total e f) without with-file = without h b
      go (is_added e f) without with-file =
          let g = grown_by h (tally_in allowance s) in
          let k = after allowance g files in
          bounded_same k.bounds k.points (right g) (back g) (with-file g (bounded_grown P h s b))

  -- from the empty sheet on
  pub bounded_all : (files : List (List ℕ)) → (let g = after allowance empty_sheet files in Bounded g.bounds g.points (λ a z. InFiles allowance a (taken allowance empty_sheet files) z))
  unfolding empty_sheet
  bounded_all files =
      let g = after allowance empty_sheet files in
      bounded_same g.bounds g.points right (λ a z x. inr x) (bounded (λ a z. ⊥) empty_sheet (refl, λ a z x. x) files)
    where
      right : (a : Axis) (z : ℤ) → ⊥ ⊎ InFiles allowance a (taken allowance empty_sheet files) z → InFiles allowance a (taken allowance empty_sheet files) z
      right a z (inl x) = absurd x
      right a z (inr x) = x

-- what bounds say
pub none_exactly : (P : Axis → ℤ → Type 0) (b : Option Extent) (n : ℕ) → Bounded b n P → (b ≡ None) ↔ (n ≡ 0)
none_exactly P None n (none, p) = (λ e. none, λ e. refl)
none_exactly P (Some x) n (some, p) = (λ e. let z : ◌≡◌ {A = ℕ} 0 1 = cc in absurd (omega arith), λ e. absurd (omega arith))

pub spans_on : (P : Axis → ℤ → Type 0) (b : Option Extent) (n : ℕ) → Bounded b n P → {e : Extent} → b ≡ Some e → (a : Axis) → Spans (P a) (on a e)
spans_on P None n p {e} is a = let z : ◌≡◌ {A = ℕ} 0 1 = cc in absurd (omega arith)
spans_on P (Some x) n (some, p) {e} is a = let same : x ≡ e = cc in subst (λ (g : Extent). Spans (P a) (on a g)) same (p a)
