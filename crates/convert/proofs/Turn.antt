-- One record of a run, and the rest of it: a turn of the writer.
use Prim.Native.Nat.{ℕ, zero, suc, ◌+◌, ◌-◌, ◌*◌, ◌≤◌, ◌<◌}
use mathlib.Core.Path.{◌≡◌, refl, ap, sym, ◌∙◌}
use mathlib.Core.Bool.{Bool}
use mathlib.Core.List.{List, ◌++◌}
use native.Mathlib.Omega.{arith}
use lib.ListN.{length, take, drop}
use lib.Seq.{sets, drop-drop}
use Rattle.lent.specs.Laws.{laid_turn}
use Rattle.lent.specs.Records.{record_length_lem}
use Rattle.point.specs.Read.{point_of}
use Rattle.pairs.specs.declared.Plan.{Plan}
use Rattle.pairs.specs.Sound.{Sound}
use Rattle.convert.specs.Run.{turned_of, image_of, images_of}
use Rattle.convert.specs.Asked.{Takes, TakesRun}
use Rattle.convert.specs.Laws.{image_length}

module _ (up : Bool) (p : Plan) (s : List ℕ) (at left : ℕ) (more : 0 < left) where
  abbrev m : ℕ
  m = p.source_length

  abbrev record-at : List ℕ
  record-at = take (at + m - at) (drop at s)

  images-step : (k : ℕ) → left ≡ suc k → images_of up p left (drop at s) ≡ image_of up p record-at ++ images_of up p (left - 1) (drop (at + m) s)
  unfolding images_of
  images-step k e =
      let one : suc k - 1 ≡ k = omega arith in
      let cut : at + m - at ≡ m = omega arith in
      rw (e, one, cut, drop-drop m at s)

  -- the writer takes this record, and those after it
  pub takes_step : TakesRun up p left (drop at s) → Takes p.target (turned_of up (point_of p.source record-at)) × TakesRun up p (left - 1) (drop (at + m) s)
  unfolding TakesRun
  takes_step t = go left refl t
    where
      go : (l : ℕ) → left ≡ l → TakesRun up p l (drop at s) → Takes p.target (turned_of up (point_of p.source record-at)) × TakesRun up p (left - 1) (drop (at + m) s)
      go zero e t = absurd (omega arith)
      go (suc k) e t =
          let one : left - 1 ≡ k = omega arith in
          let cut : at + m - at ≡ m = omega arith in
          rw (one, cut, ← (drop-drop m at s)) t

  -- the record's image is such a piece
  pub write_turn : (d ys : List ℕ) (to : ℕ) {w : List ℕ} → Sound up p → at + left * m ≤ length s → to + p.target_length ≤ length d → TakesRun up p left (drop at s) → ys ≡ image_of up p record-at ++ drop p.target_length (take (length d - to) (drop to d)) → sets d to (images_of up p left (drop at s)) ≡ w → (length (take to d ++ (ys ++ drop (length d - to) (drop to d))) ≡ length d) × (sets (take to d ++ (ys ++ drop (length d - to) (drop to d))) (to + p.target_length) (images_of up p (left - 1) (drop (at + m) s)) ≡ w)
  write_turn d ys to sound ends room takes laid all =
      let size : length (image_of up p record-at) ≡ p.target_length = image_length up p sound record-at (record_length_lem m s at left more ends) (takes_step takes).0 in
      laid_turn d (image_of up p record-at) (images_of up p (left - 1) (drop (at + m) s)) ys to p.target_length size room laid
      (sym (ap (sets d to) (images-step (left - 1) (omega arith))) ∙ all)
