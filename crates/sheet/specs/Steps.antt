-- One file more: what an answer says, and what it keeps.
use Rattle.std.specs.Prelude.{Result, Ok, Err, ◌≡◌, Bool, true, false, length, get_or}
use Rattle.refusal.specs.Refused.{at_record}
use Rattle.refusal.specs.declared.Refused.{Refused}
use Prim.Native.Nat.{ℕ, zero, suc, ◌+◌}
use Rattle.std.proofs.Math.Path.{refl, ap, sym}
use Rattle.std.proofs.Common.{subst, ◌∙◌}
use mathlib.Core.List.{List, [], ◌∷◌}
use native.Mathlib.Omega.{arith}
use Rattle.std.proofs.lemmas.List.{length-replicate}
use Rattle.refusal.specs.declared.Refusal.{Refusal}
use Rattle.refusal.specs.declared.Refusal.TheVariants.{TotalTooLarge}
use Rattle.walker.specs.Begin.{begin_of}
use Rattle.sheet_count.specs.declared.Tally.{Tally}
use Rattle.sheet_count.specs.File.{tally_of, counted_by, counted_of}
use Rattle.sheet_count.specs.Laws.{length_counts}
use Rattle.sheet_count.specs.Totals.{total}
use Rattle.sheet.specs.declared.Sheet.{Sheet}
use Rattle.sheet.specs.Sheet.{Added, empty_sheet, totals_fit, sums, grown_by, added_by, added_of}
use Rattle.sheet.specs.Laws.{all_added, too_large}

-- the counts of a file
abbrev pub tally_in : ℕ → List ℕ → Tally
tally_in allowance s = tally_of (begin_of allowance s) s

-- a file is refused by the file check, or with 50, and leaves the sheet, or it is added
pub data Step (allowance : ℕ) (h : Sheet) (s : List ℕ) : Added → Type 0 where
  by_check_lem : {r : Refusal} {k : ℕ} → (begin_of allowance s).start ≡ Err (at_record r k) → Step allowance h s (Err (at_record r k), h)
  by_total : (begin_of allowance s).start ≡ (Ok tt) → totals_fit h (tally_in allowance s) ≡ false → Step allowance h s (Err (at_record TotalTooLarge 0), h)
  is_added : (begin_of allowance s).start ≡ (Ok tt) → totals_fit h (tally_in allowance s) ≡ true → Step allowance h s (Ok tt, grown_by h (tally_in allowance s))

module _ (allowance : ℕ) (h : Sheet) (s : List ℕ) where
  abbrev t : Tally
  t = tally_in allowance s

  by_start_lem : {x : Result Unit Refused} → (begin_of allowance s).start ≡ x → added_of allowance h s ≡ added_by h (counted_by t x)
  unfolding added_of counted_of
  by_start_lem e = ap (λ (x : Result Unit Refused). added_by h (counted_by t x)) e

  -- by which of the three it is
  pub check_refuses : {r : Refusal} {k : ℕ} → (begin_of allowance s).start ≡ Err (at_record r k) → added_of allowance h s ≡ (Err (at_record r k), h)
  check_refuses e = by_start_lem e

  pub adds : (begin_of allowance s).start ≡ (Ok tt) → totals_fit h t ≡ true → added_of allowance h s ≡ (Ok tt, grown_by h t)
  adds e f = by_start_lem e ∙ all_added h t f

  pub over_refuses : (begin_of allowance s).start ≡ (Ok tt) → totals_fit h t ≡ false → added_of allowance h s ≡ (Err (at_record TotalTooLarge 0), h)
  over_refuses e f = by_start_lem e ∙ too_large h t f

  pub step : Step allowance h s (added_of allowance h s)
  step = go (begin_of allowance s).start refl
    where
      test : (begin_of allowance s).start ≡ (Ok tt) → (b : Bool) → totals_fit h t ≡ b → Step allowance h s (added_of allowance h s)
      test e true f = subst (Step allowance h s) (sym (adds e f)) (is_added e f)
      test e false f = subst (Step allowance h s) (sym (over_refuses e f)) (by_total e f)

      go : (x : Result Unit Refused) → (begin_of allowance s).start ≡ x → Step allowance h s (added_of allowance h s)
      go (Ok tt) e = test e (totals_fit h t) refl
      go (Err err) e = subst (Step allowance h s) (sym (check_refuses e)) (by_check_lem e)

-- a sheet has a number for each class and for each return number
pub record Sized (h : Sheet) : Type 0 where
  pub classes : length h.classes ≡ 256
  pub returns : length h.returns ≡ 16

pub empty-sized : Sized empty_sheet
unfolding empty_sheet
empty-sized = record { classes = length-replicate {A = ℕ} 256 0; returns = length-replicate {A = ℕ} 16 0 }

pub tally_sized : (allowance : ℕ) (s : List ℕ) → (length (tally_in allowance s).classes ≡ 256) × (length (tally_in allowance s).returns ≡ 16)
unfolding tally_of
tally_sized allowance s = (length_counts 256 _ _, length_counts 16 _ _)

-- sums of lists of one length
module _ where
  pub sums-length : (a b : List ℕ) → length a ≡ length b → length (sums a b) ≡ length a
  unfolding sums
  sums-length [] b e = refl
  sums-length (x ∷ a) [] e = absurd (omega arith)
  sums-length (x ∷ a) (y ∷ b) e = omega (arith, sums-length a b (omega arith))

  pub sums-total : (a b : List ℕ) → length a ≡ length b → total (sums a b) ≡ total a + total b
  unfolding sums total
  sums-total [] [] e = omega arith
  sums-total [] (y ∷ b) e = absurd (omega arith)
  sums-total (x ∷ a) [] e = absurd (omega arith)
  sums-total (x ∷ a) (y ∷ b) e = omega (arith, sums-total a b (omega arith))

  pub sums_at : (a b : List ℕ) (k : ℕ) → length a ≡ length b → get_or (sums a b) k 0 ≡ get_or a k 0 + get_or b k 0
  unfolding sums
  sums_at [] [] k e = omega arith
  sums_at [] (y ∷ b) k e = absurd (omega arith)
  sums_at (x ∷ a) [] k e = absurd (omega arith)
  sums_at (x ∷ a) (y ∷ b) zero e = refl
  sums_at (x ∷ a) (y ∷ b) (suc k) e = sums_at a b k (omega arith)

module _ (allowance : ℕ) (s : List ℕ) where
  pub grown-sized : (h : Sheet) → Sized h → Sized (grown_by h (tally_in allowance s))
  unfolding grown_by
  grown-sized h z =
      let (c, r) = tally_sized allowance s in
      record {
        classes = sums-length h.classes (tally_in allowance s).classes (z.classes ∙ sym c) ∙ z.classes;
        returns = sums-length h.returns (tally_in allowance s).returns (z.returns ∙ sym r) ∙ z.returns;
      }

  pub added_sized : (h : Sheet) → Sized h → Sized (added_of allowance h s).1
  added_sized h z = go (step allowance h s)
    where
      go : {a : Added} → Step allowance h s a → Sized a.1
      go (by_check_lem e) = z
      go (by_total e f) = z
      go (is_added e f) = grown-sized h z
