-- What acceptance says of the parts: each record is all there, and the parts follow one another.
use Rattle.std.specs.Prelude.{Ok}
use Rattle.std.specs.Prelude.{ℕ, ◌-◌, ◌≤◌, ◌≡◌, Bool, true, false, cond, List, eqb, length, drop}
use Rattle.std.proofs.Math.Path.{refl}
use Rattle.std.proofs.Common.{sym, subst, pos_of_ne-zero, arith, eqb-true, length-drop, take_all}
use Rattle.std.proofs.lemmas.Bool.{eqb-false}
use Rattle.outline.specs.declared.Outline.{Outline}
use Rattle.rules.specs.Records.{Run}
use Rattle.extents.specs.Extents.{points_end}
use Rattle.file.specs.Rules.{checked_of}
use Rattle.file.specs.Holds.{PartsHold}
use Rattle.file.specs.Theorems.{accepted-holds}
use Rattle.cursor.specs.Parts.{between, outline_in, later_start, Laid}

-- the bytes from a place to the end
pub to_end : (from : ℕ) (s : List ℕ) → drop from s ≡ between from (length s) s
to_end from s = sym (take_all (length s - from) (drop from s) (simp length-drop (omega arith)))

-- rules 2 to 8 lay the parts out so
module _ {n minor allowance : ℕ} (o : Outline) (s : List ℕ) (h : PartsHold n minor allowance o s) where
  abbrev After : ℕ → Type 0
  After start = (points_end o ≤ start) × (start ≤ length s) × Run true o.number_of_later_records (between start (length s) s)

  by_count : (b : Bool) → eqb o.number_of_later_records 0 ≡ b → After (cond b (points_end o) o.start_of_later_records)
  by_count true e = (omega arith, h.points-within, rw (eqb-true o.number_of_later_records 0 e) tt)
  by_count false e =
      let start = h.later_start_lem (pos_of_ne-zero (eqb-false _ _ e)) in
      (start.0, start.1, subst (Run true o.number_of_later_records) (to_end o.start_of_later_records s) h.later_whole)

  laid_out : Laid o s
  unfolding later_start
  laid_out =
      let later = by_count (eqb o.number_of_later_records 0) refl in
      record { after_header = h.offset_after_header; vlrs = h.vlrs_whole; after-points = later.0; within = later.1; later = later.2 }

-- and those of an accepted file
pub laid : (allowance : ℕ) (s : List ℕ) {n : ℕ} → checked_of allowance s ≡ Ok n → Laid (outline_in s) s
laid allowance s p = laid_out (outline_in s) s (accepted-holds allowance s p).parts
