-- When a file is added, and when it is refused: document 02, No. 9, "Refusals: the file's own, and a total over 2^64−1."
use Rattle.std.specs.Prelude.{Result, Ok, Err, ℕ, zero, suc, ◌+◌, ◌^◌, ◌<◌, ◌≡◌, List, [], ◌∷◌, length, get_or}
use Rattle.rules.specs.NotAccepted.{not_accepted}
use Rattle.refusal.specs.Refused.{at_record, refused_same}
use Rattle.rules.specs.declared.NotAccepted.{NotAccepted}
use Rattle.std.proofs.Math.Path.{refl}
use Rattle.std.proofs.Common.{sym, ◌∙◌, arith}
use Rattle.std.proofs.Math.Bool.{true, and-eq-true_iff}
use Rattle.refusal.specs.declared.Refusal.{Refusal}
use Rattle.refusal.specs.declared.Refusal.TheVariants.{TotalTooLarge}
use Rattle.file.specs.Rules.{checked_of}
use Rattle.walker.specs.Begin.{begin_of}
use Rattle.walker.specs.Accepted.{begins, begins_refused}
use Rattle.sheet_count.specs.declared.Tally.{Tally}
use Rattle.sheet_count.specs.File.{tally_of}
use Rattle.sheet_count.specs.Theorems.{each-class, each_return}
use Rattle.sheet.specs.declared.Sheet.{Sheet}
use Rattle.sheet.specs.Sheet.{Added, fits_in, all_fit, totals_fit, grown_by, added_of}
use Rattle.sheet.specs.Laws.{fits_says, says_fits, totals_say}
use Rattle.sheet.specs.Fold.{points_of, of_class, of_return}
use Rattle.sheet.specs.Steps.{tally_in, Step, by_check_lem, by_total, is_added, step, Sized, tally_sized}

-- every total stays below 2^64
pub record Totals (allowance : ℕ) (h : Sheet) (s : List ℕ) : Type 0 where
  pub files : h.files + 1 < 2 ^ 64
  pub points : h.points + points_of allowance s < 2 ^ 64
  pub classes : (k : ℕ) → k < 256 → get_or h.classes k 0 + of_class allowance k s < 2 ^ 64
  pub returns : (k : ℕ) → k < 16 → get_or h.returns k 0 + of_return allowance k s < 2 ^ 64

module _ (allowance : ℕ) (h : Sheet) (s : List ℕ) where
  abbrev pub Accepted : Type 0
  Accepted = (n : ℕ) × (checked_of allowance s ≡ Ok n)

  -- the refusals in their order
  pub data RefusedFor : Refusal → ℕ → Type 0 where
    file_check : {why : Refusal} {j n : ℕ} → checked_of allowance s ≡ Err (not_accepted why j n) → RefusedFor why j
    total_too_large : Accepted → (Totals allowance h s → ⊥) → RefusedFor TotalTooLarge 0

-- what the tests of a list say
all_fit_at : (a b : List ℕ) (k : ℕ) → k < length a → k < length b → all_fit a b ≡ true → get_or a k 0 + get_or b k 0 < 2 ^ 64
unfolding all_fit
all_fit_at [] b k h l e = absurd (omega arith)
all_fit_at (x ∷ a) [] k h l e = absurd (omega arith)
all_fit_at (x ∷ a) (y ∷ b) zero h l e = fits_says x y ((and-eq-true_iff (fits_in x y) _).0 e).0
all_fit_at (x ∷ a) (y ∷ b) (suc k) h l e = all_fit_at a b k (omega arith) (omega arith) ((and-eq-true_iff (fits_in x y) _).0 e).1

pub all_fit_each : (a b : List ℕ) → ((k : ℕ) → k < length a → k < length b → get_or a k 0 + get_or b k 0 < 2 ^ 64) → all_fit a b ≡ true
unfolding all_fit
all_fit_each [] b each = refl
all_fit_each (x ∷ a) [] each = refl
all_fit_each (x ∷ a) (y ∷ b) each =
    (and-eq-true_iff (fits_in x y) _).1
    (says_fits x y (each 0 (omega arith) (omega arith)), all_fit_each a b (λ k p q. each (suc k) (omega arith) (omega arith)))

module _ (allowance : ℕ) (h : Sheet) (s : List ℕ) (z : Sized h) where
  abbrev t : Tally
  t = tally_in allowance s

  points_is : t.points ≡ points_of allowance s
  unfolding tally_of
  points_is = refl

  pub totals-fit : totals_fit h t ≡ true → Totals allowance h s
  totals-fit e =
      let f = totals_say h t e in
      let (c, r) = tally_sized allowance s in
      let p = begin_of allowance s in
      record {
        files = f.files;
        points = omega (arith, f.points, points_is);
        classes = λ k l. omega (arith, all_fit_at h.classes t.classes k (omega (arith, z.classes)) (omega arith) f.classes, each-class p s k l);
        returns = λ k l. omega (arith, all_fit_at h.returns t.returns k (omega (arith, z.returns)) (omega arith) f.returns, each_return p s k l);
      }

  pub fit_totals : Totals allowance h s → totals_fit h t ≡ true
  unfolding totals_fit
  fit_totals f =
      let (c, r) = tally_sized allowance s in
      let p = begin_of allowance s in
      let classes : all_fit h.classes t.classes ≡ true = all_fit_each h.classes t.classes (λ k l m. omega (arith, f.classes k (omega (arith, z.classes)), each-class p s k (omega (arith, z.classes)))) in
      let returns : all_fit h.returns t.returns ≡ true = all_fit_each h.returns t.returns (λ k l m. omega (arith, f.returns k (omega (arith, z.returns)), each_return p s k (omega (arith, z.returns)))) in
      let points : fits_in h.points t.points ≡ true = says_fits h.points t.points (omega (arith, f.points, points_is)) in
      rw (says_fits h.files 1 f.files, points, classes, returns)

-- what the walker starts with is what the file check answers
module _ (allowance : ℕ) (s : List ℕ) where
  pub was-accepted : (begin_of allowance s).start ≡ (Ok tt) → (n : ℕ) × (checked_of allowance s ≡ Ok n)
  was-accepted e = go (checked_of allowance s) refl
    where
      go : (x : Result ℕ NotAccepted) → checked_of allowance s ≡ x → (n : ℕ) × (checked_of allowance s ≡ Ok n)
      go (Ok n) is = (n, is)
      go (Err err) is = let no = begins_refused allowance s is in let z : ◌≡◌ {A = ℕ} 0 1 = cc in absurd (omega arith)

  pub was-refused : {why : Refusal} {j : ℕ} → (begin_of allowance s).start ≡ Err (at_record why j) → (n : ℕ) × (checked_of allowance s ≡ Err (not_accepted why j n))
  was-refused {why} {j} e = go (checked_of allowance s) refl
    where
      go : (x : Result ℕ NotAccepted) → checked_of allowance s ≡ x → (n : ℕ) × (checked_of allowance s ≡ Err (not_accepted why j n))
      go (Ok n) is = let (f, at, count, told) = begins allowance s is in let z : ◌≡◌ {A = ℕ} 0 1 = cc in absurd (omega arith)
      go (Err err) is =
          let no = begins_refused allowance s is in
          let same = refused_same (sym no ∙ e) in
          (err.records, rw (← same.0, ← same.1) is)

module _ (allowance : ℕ) (h : Sheet) (s : List ℕ) (z : Sized h) where
  pub refused_for : {why : Refusal} {j : ℕ} → (added_of allowance h s).0 ≡ Err (at_record why j) → RefusedFor allowance h s why j
  refused_for {why} {j} e = go (step allowance h s) e
    where
      go : {a : Added} → Step allowance h s a → a.0 ≡ Err (at_record why j) → RefusedFor allowance h s why j
      go (by_check_lem {r} {k} is) e =
          let same = refused_same e in
          let (n, told) = was-refused allowance s is in
          rw (← same.0, ← same.1) (file_check told)
      go (by_total is over) e =
          let same = refused_same e in
          rw (← same.0, ← same.1) (total_too_large (was-accepted allowance s is) (λ f. let fits = fit_totals allowance h s z f in let z : ◌≡◌ {A = ℕ} 0 1 = cc in omega arith))
      go (is_added is fits) e = let z : ◌≡◌ {A = ℕ} 0 1 = cc in absurd (omega arith)

  pub for_refused : {why : Refusal} {j : ℕ} → RefusedFor allowance h s why j → (added_of allowance h s).0 ≡ Err (at_record why j)
  for_refused r = go (step allowance h s) r
    where
      go : {a : Added} {why : Refusal} {j : ℕ} → Step allowance h s a → RefusedFor allowance h s why j → a.0 ≡ Err (at_record why j)
      go (by_check_lem is) (file_check e) = let told = begins_refused allowance s e in cc
      go (by_check_lem is) (total_too_large (n, e) over) = let (f, at, count, told) = begins allowance s e in let z : ◌≡◌ {A = ℕ} 0 1 = cc in absurd (omega arith)
      go (by_total is over) (file_check e) = let told = begins_refused allowance s e in let z : ◌≡◌ {A = ℕ} 0 1 = cc in absurd (omega arith)
      go (by_total is over) (total_too_large ok over2) = refl
      go (is_added is fits) (file_check e) = let told = begins_refused allowance s e in let z : ◌≡◌ {A = ℕ} 0 1 = cc in absurd (omega arith)
      go (is_added is fits) (total_too_large ok over) = absurd (over (totals-fit allowance h s z fits))

  pub added_for : (added_of allowance h s).0 ≡ (Ok tt) → Accepted allowance h s × Totals allowance h s
  added_for e = go (step allowance h s) e
    where
      go : {a : Added} → Step allowance h s a → a.0 ≡ (Ok tt) → Accepted allowance h s × Totals allowance h s
      go (by_check_lem is) e = let z : ◌≡◌ {A = ℕ} 0 1 = cc in absurd (omega arith)
      go (by_total is over) e = let z : ◌≡◌ {A = ℕ} 0 1 = cc in absurd (omega arith)
      go (is_added is fits) e = (was-accepted allowance s is, totals-fit allowance h s z fits)

  pub for_added : Accepted allowance h s × Totals allowance h s → added_of allowance h s ≡ (Ok tt, grown_by h (tally_in allowance s))
  for_added ((n, e), f) = go (step allowance h s)
    where
      go : {a : Added} → Step allowance h s a → a ≡ (Ok tt, grown_by h (tally_in allowance s))
      go (by_check_lem is) = let (f, at, count, told) = begins allowance s e in let z : ◌≡◌ {A = ℕ} 0 1 = cc in absurd (omega arith)
      go (by_total is over) = let fits = fit_totals allowance h s z f in let z : ◌≡◌ {A = ℕ} 0 1 = cc in absurd (omega arith)
      go (is_added is fits) = refl
