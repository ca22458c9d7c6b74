-- A turn of a loop that lays one piece after the other into the rest of the destination.
use Rattle.std.specs.Prelude.{Ok}
use Prim.Native.Nat.{ℕ, suc, ◌+◌, ◌-◌, ◌*◌, ◌≤◌, ◌<◌}
use mathlib.Core.Path.{◌≡◌, ap, sym, ◌∙◌}
use mathlib.Core.List.{List, ◌∷◌, ◌++◌}
use native.Mathlib.Omega.{arith}
use lib.ListN.{length, take, drop, length-drop}
use lib.Seq.{sets, drop-drop, length-take-le}
use Rattle.le.specs.Le.{Bytes}
use Rattle.le.specs.Laws.{bytes_take, bytes_drop}
use Rattle.lent.specs.Laws.{laid_turn, less_one}
use Rattle.format.specs.declared.Format.{Format}
use Rattle.format.specs.Fields.{len_of}
use Rattle.outline.specs.declared.Outline.{Outline}
use Rattle.cursor.specs.declared.Part.{Part}
use Rattle.cursor.specs.Parts.{between, bytes_of}
use Rattle.rewrite.specs.Back.{point_back, points_back, part_back}
use Rattle.rewrite.specs.Rewritten.{back_of}
use Rattle.rewrite.specs.Asked.{PartIs, IsWhole}
use Rattle.rewrite.specs.Whole.{length_part, length_back}
use Rattle.rewrite.specs.Laws.{point_same}

-- a record of the points, as it is cut and laid, and those that are left after it
pub points_turn : (f : Format) (m : ℕ) → len_of f ≡ Ok m → (s : List ℕ) → Bytes s → (at left : ℕ) → 0 < left → at + left * m ≡ length s → (d ys : List ℕ) {w : List ℕ} → length s ≤ length d → ys ≡ point_back f (between at (at + m) s) ++ drop (length (between at (at + m) s)) (between at (length d) d) → sets d at (points_back f m left (drop at s)) ≡ w
    → (length (take at d ++ (ys ++ drop (length d - at) (drop at d))) ≡ length d) × (sets (take at d ++ (ys ++ drop (length d - at) (drop at d))) (at + m) (points_back f m (left - 1) (drop (at + m) s)) ≡ w)
unfolding points_back
points_turn f m long s bytes at left more ends d ys room laid all =
    let fits : at + m ≤ length s = omega (arith, less_one left m more) in
    let size : at + m - at ≡ m = omega arith in
    let one : length (between at (at + m) s) ≡ m = rw size (length-take-le m (drop at s) (simp length-drop (omega arith))) in
    let same = point_same f (between at (at + m) s) (rw one long) (bytes_take (at + m - at) (drop at s) (bytes_drop at s bytes)) in
    laid_turn d (point_back f (between at (at + m) s)) (points_back f m (left - 1) (drop (at + m) s)) ys at m (ap length same ∙ one) (omega arith) (rw one at laid)
    (sym (ap (sets d at) (step (left - 1) (omega arith))) ∙ all)
  where
    step : (k : ℕ) → left ≡ suc k → points_back f m left (drop at s) ≡ point_back f (between at (at + m) s) ++ points_back f m (left - 1) (drop (at + m) s)
    step k e =
        let one : suc k - 1 ≡ k = omega arith in
        let size : at + m - at ≡ m = omega arith in
        rw (e, one, size, drop-drop m at s)

-- a part of the file, as it is cut and laid
module _ (o : Outline) (s : List ℕ) (bytes : Bytes s) (p : Part) (ends : p.start + p.length ≤ length s) (whole : IsWhole o s p) where
  abbrev cut : List ℕ
  cut = between p.start (p.start + p.length) s

  cut_is : cut ≡ bytes_of s p
  cut_is = let e : p.start + p.length - p.start ≡ p.length = omega arith in rw e

  pub cut-length : length cut ≡ p.length
  cut-length = ap length cut_is ∙ length_part o s bytes p ends

  pub cut-whole : PartIs o p.kind cut
  cut-whole = rw cut_is whole

  pub part_turn : (at : ℕ) → p.start ≡ at → (ps : List Part) (d ys : List ℕ) {w : List ℕ} → length s ≤ length d → ys ≡ part_back o p.kind cut ++ drop (length cut) (between p.start (length d) d) → sets d at (back_of o s (p ∷ ps)) ≡ w → (length (take p.start d ++ (ys ++ drop (length d - p.start) (drop p.start d))) ≡ length d) × (sets (take p.start d ++ (ys ++ drop (length d - p.start) (drop p.start d))) (at + p.length) (back_of o s ps) ≡ w)
  unfolding back_of
  part_turn at start ps d ys room laid all =
      rw (← start)
      (laid_turn d (part_back o p.kind (bytes_of s p)) (back_of o s ps) ys p.start p.length (length_back o s bytes p ends whole) (omega arith) (rw (cut-length, cut_is) at laid) (rw (← start) at all))
