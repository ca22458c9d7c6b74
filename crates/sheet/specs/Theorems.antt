-- What the sheet is worth: document 02, No. 9. `after` is the sheet after some files, one added after the other, and `taken` those of them that
-- were added (Fold.antt). A file is bytes, as its type has it.
use Rattle.std.specs.Prelude.{Some, None, Ok, Err, ℕ, ◌<◌, ◌≡◌, List, ◌↔◌}
use Rattle.refusal.specs.Refused.{at_record}
use Rattle.std.proofs.Math.Path.{refl}
use Rattle.std.proofs.Common.{ap, arith}
use Rattle.std.proofs.Math.ListN.{get_or}
use Rattle.std.proofs.lemmas.List.{get_or-replicate}
use Rattle.refusal.specs.declared.Refusal.{Refusal}
use Rattle.column.specs.declared.Axis.{Axis}
use Rattle.sheet_count.specs.declared.Extent.{Extent}
use Rattle.sheet_count.specs.Totals.{total}
use Rattle.sheet_count.specs.Spans.{Spans}
use Rattle.sheet_count.specs.Theorems.{on}
use Rattle.sheet.specs.declared.Sheet.{Sheet}
use Rattle.sheet.specs.Sheet.{Added, empty_sheet, added_of}
use Rattle.sheet.specs.Fold.{after, taken, points_of, of_class, of_return, InFiles, sum_over, AllBytes, NoneTooLarge, Order}
use Rattle.sheet.specs.Steps.{Step, by_check_lem, by_total, is_added, step, Sized, empty-sized}
use Rattle.sheet.specs.Folded.{shares_from, empty_balanced, balanced, bounded_all, none_exactly, spans_on}
use Rattle.sheet.specs.Exact.{Totals, Accepted, RefusedFor, refused_for, for_refused, added_for, for_added}
use Rattle.sheet.specs.Ordering.{files_one, points-one, class-one, return_one, ordered}

module _ (allowance : ℕ) (files : List (List ℕ)) where
  -- the sheet of these files, and those of them that are on it
  abbrev sheet : Sheet
  sheet = after allowance empty_sheet files

  abbrev on_it : List (List ℕ)
  on_it = taken allowance empty_sheet files

  -- "Classes must add up to the points, and so must returns, over all files together"
  pub classes_add-up : AllBytes files → total sheet.classes ≡ sheet.points
  classes_add-up bytes = (balanced allowance empty_sheet empty-sized empty_balanced files bytes).classes

  pub returns-add-up : AllBytes files → total sheet.returns ≡ sheet.points
  returns-add-up bytes = (balanced allowance empty_sheet empty-sized empty_balanced files bytes).returns

  -- "points for each class, for each return number including zero, .. and totals": each is the sum over the files that are on it, of the
  -- points of the file, or of those that have the class or the return number.
  pub files_sum : sheet.files ≡ sum_over (λ s. 1) on_it
  unfolding empty_sheet
  files_sum = shares_from allowance (λ h. h.files) (λ s. 1) (λ h s z. files_one allowance h z s) empty_sheet empty-sized refl files

  pub points-sum : sheet.points ≡ sum_over (points_of allowance) on_it
  unfolding empty_sheet
  points-sum = shares_from allowance (λ h. h.points) (points_of allowance) (λ h s z. points-one allowance h z s) empty_sheet empty-sized refl files

  pub classes_sum : (k : ℕ) → k < 256 → get_or sheet.classes k 0 ≡ sum_over (of_class allowance k) on_it
  unfolding empty_sheet
  classes_sum k h =
      shares_from allowance (λ h. get_or h.classes k 0) (of_class allowance k) (λ g s z. class-one allowance g z s k h) empty_sheet empty-sized (get_or-replicate {A = ℕ} 256 k 0 0 h) files

  pub returns-sum : (k : ℕ) → k < 16 → get_or sheet.returns k 0 ≡ sum_over (of_return allowance k) on_it
  unfolding empty_sheet
  returns-sum k h =
      shares_from allowance (λ h. get_or h.returns k 0) (of_return allowance k) (λ g s z. return_one allowance g z s k h) empty_sheet empty-sized (get_or-replicate {A = ℕ} 16 k 0 0 h) files

  -- "With no points at all there are no smallest and largest", and with some there are:
  pub no-bounds_exactly : (sheet.bounds ≡ None) ↔ (sheet.points ≡ 0)
  no-bounds_exactly = none_exactly (λ a z. InFiles allowance a on_it z) sheet.bounds sheet.points (bounded_all allowance files)

  -- "smallest and largest X, Y and Z as the stored whole numbers": on each axis one of all points has the smallest, one the largest, and
  -- none is beyond them.
  pub bounds-span : {e : Extent} → sheet.bounds ≡ Some e → (a : Axis) → Spans (InFiles allowance a on_it) (on a e)
  bounds-span is a = spans_on (λ a z. InFiles allowance a on_it z) sheet.bounds sheet.points (bounded_all allowance files) is a

-- Of one file more, on any sheet that has a number for each class and each return number:
module _ (allowance : ℕ) (h : Sheet) (z : Sized h) (s : List ℕ) where
  -- "A refused file is named with its refusal and adds nothing."
  pub refused_adds_nothing : {why : Refusal} {j : ℕ} → (added_of allowance h s).0 ≡ Err (at_record why j) → (added_of allowance h s).1 ≡ h
  refused_adds_nothing {why} {j} e = go (step allowance h s) e
    where
      go : {a : Added} → Step allowance h s a → a.0 ≡ Err (at_record why j) → a.1 ≡ h
      go (by_check_lem is) e = refl
      go (by_total is over) e = refl
      go (is_added is fits) e = let z : ◌≡◌ {A = ℕ} 0 1 = cc in absurd (omega arith)

  -- "Refusals: the file's own, and a total over 2^64−1": refused with each exactly when it is the first to hold in that order (`RefusedFor`,
  -- in Exact.antt),
  pub refused_exactly : (why : Refusal) (j : ℕ) → ((added_of allowance h s).0 ≡ Err (at_record why j)) ↔ RefusedFor allowance h s why j
  refused_exactly why j = (refused_for allowance h s z, for_refused allowance h s z)

  -- and added exactly when neither does.
  pub added_exactly : ((added_of allowance h s).0 ≡ (Ok tt)) ↔ (Accepted allowance h s × Totals allowance h s)
  added_exactly = (added_for allowance h s z, λ both. ap (λ (a : Added). a.0) (for_added allowance h s z both))

-- The order of the files does not matter where none is refused for a total: in another order none is either, and the sheet is the same.
pub order_free : (allowance : ℕ) {files others : List (List ℕ)} → Order files others → NoneTooLarge allowance empty_sheet files → (after allowance empty_sheet files ≡ after allowance empty_sheet others) × NoneTooLarge allowance empty_sheet others
order_free allowance o none = ordered allowance empty_sheet empty-sized o none
