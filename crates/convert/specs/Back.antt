-- A run brought up and strictly down again.
use Rattle.std.specs.Prelude.{Ok, ◌≡◌, ◌↔◌}
use Prim.Native.Nat.{ℕ, zero, suc, ◌+◌, ◌*◌, ◌≤◌, ◌<◌}
use Rattle.std.proofs.Math.Path.{ap, sym, subst}
use Rattle.std.proofs.Common.{◌∙◌, zero-mul, arith, length-append, take-add}
use Rattle.std.proofs.Math.Bool.{true, false}
use mathlib.Core.List.{List, [], ◌++◌, append_assoc, append-nil}
use Rattle.std.proofs.Math.Nat.{suc-mul}
use borrow.Author.Tests.{le-ltb}
use Rattle.std.proofs.Math.ListN.{length, take, drop, length-drop}
use Rattle.std.proofs.Math.Seq.{take_at, drop_at, take_all, length-take-le}
use Rattle.le.specs.Le as le
use Rattle.le.specs.Laws.{bytes_take, bytes_drop}
use Rattle.flags.specs.Readings.{class_of}
use Rattle.point.specs.declared.Point.{Point}
use Rattle.point.specs.Read.{point_of}
use Rattle.strict.specs.Fit.{fit_of}
use Rattle.strict.specs.Shown.{Within90, up_image}
use Rattle.pairs.specs.Paired.{Paired, shorter}
use Rattle.strict.specs.Theorems.{down_again_exactly, up-and_down}
use Rattle.pairs.specs.Pairs.{format_with}
use Rattle.judge.specs.Judge.{judged_of}
use Rattle.convert.specs.Run.{image_of, images_of, to_old_of, to_new_of}
use Rattle.pairs.specs.Sound.{Sound, not-up}
use Rattle.convert.specs.Asked.{Takes}
use Rattle.convert.specs.Demand.{Up, length_of, run_length, nth, point_at, NotOverlong, Enough, No28, AllWithin90, laid}
use Rattle.judge.specs.Laws.{goes}
use Rattle.convert.specs.Laws.{image_length, images-length, takes_new}
use Rattle.convert.specs.Told.{plan_of, converted_of, told-run, told-bytes, plan-of_sound, down_paired, up-told, way_back}
use Rattle.convert.specs.Each.{at_zero, at_suc, nth-length, image_at, Written, written}
use Rattle.convert.specs.Exact.{converted_then, then_converted}

module _ {old new : ℕ} (pair : Up old new) (extra : ℕ) where
  paired : Paired (format_with new extra) (format_with old extra)
  paired = down_paired (way_back pair) extra

  up_sound : NotOverlong old new extra → Sound true (plan_of (format_with old extra) (format_with new extra))
  up_sound long = plan-of_sound true _ _ long.0 long.1 paired

  -- the new format takes every point
  takes : (p : Point) → Takes (format_with new extra) p
  takes p f = not-up (sym f ∙ paired.is_new)

  -- what a record must be to come back: of another class than 28, with a rank within ±90
  abbrev Comes : List ℕ → Type 0
  Comes r = (class_of (point_of (format_with old extra) r).flags ≡ 28 → ⊥) × Within90 (point_of (format_with old extra) r)

  -- the images of the upgraded records in the old format are the records themselves
  run_back : NotOverlong old new extra → (count : ℕ) (s rest : List ℕ) → le.Bytes s → run_length old extra count ≤ length s → ((k : ℕ) → k < count → Comes (nth (length_of old extra) k s)) → images_of false (plan_of (format_with new extra) (format_with old extra)) count (images_of true (plan_of (format_with old extra) (format_with new extra)) count s ++ rest) ≡ take (run_length old extra count) s
  unfolding images_of image_of
  run_back short zero s rest bytes there each = sym (ap (λ (j : ℕ). take j s) (zero-mul (length_of old extra)))
  run_back short (suc c) s rest bytes there each =
      let m = length_of old extra in
      let n = length_of new extra in
      let a = format_with old extra in
      let b = format_with new extra in
      let up = plan_of a b in
      let down = plan_of b a in
      let first = image_of true up (take m s) in
      let others = images_of true up c (drop m s) in
      let all = (first ++ others) ++ rest in
      let whole : m + c * m ≤ length s = omega (arith, suc-mul c m) in
      let long : length (take m s) ≡ m = length-take-le m s (omega arith) in
      let size : length first ≡ n = image_length true up (up_sound short) (take m s) long (takes _) in
      let head : take n all ≡ first ++ [] = ap (take n) (append_assoc first others rest) ∙ take_at first (others ++ rest) n size ∙ sym (append-nil first) in
      let tail : drop n all ≡ others ++ rest = ap (drop n) (append_assoc first others rest) ∙ drop_at first (others ++ rest) n size in
      let own = subst (λ (t : List ℕ). Comes (take m t)) (at_zero m s) (each zero (omega arith)) in
      let one = up-and_down b a paired (take m s) (bytes_take m s bytes) [] (omega arith) own.0 own.1 in
      let later = run_back short c (drop m s) rest (bytes_drop m s bytes) (simp length-drop (omega arith)) (λ k l. subst (λ (t : List ℕ). Comes (take m t)) (at_suc m k s) (each (suc k) (omega arith))) in
      let same : image_of false down (take n all) ≡ take m s = ap (image_of false down) head ∙ one.1 ∙ take_all m (take m s) (omega arith) in
      let sum : suc c * m ≡ m + c * m = omega (arith, suc-mul c m) in
      ap (λ (l : List ℕ). l ++ images_of false down c (drop n all)) same
      ∙ ap (λ (t : List ℕ). take m s ++ images_of false down c t) tail
      ∙ ap (λ (l : List ℕ). take m s ++ l) later
      ∙ sym (take-add m (c * m) s)
      ∙ ap (λ (j : ℕ). take j s) (sym sum)

  -- and each of the upgraded records fits exactly when the record was such a one
  each_back : NotOverlong old new extra → (count : ℕ) (s rest : List ℕ) → le.Bytes s → run_length old extra count ≤ length s → (k : ℕ) → k < count → (fit_of (point_at new extra k (images_of true (plan_of (format_with old extra) (format_with new extra)) count s ++ rest)) ≡ Ok tt) ↔ Comes (nth (length_of old extra) k s)
  unfolding image_of
  each_back short count s rest bytes there k l =
      let m = length_of old extra in
      let n = length_of new extra in
      let a = format_with old extra in
      let b = format_with new extra in
      let up = plan_of a b in
      let r = nth m k s in
      let long : length r ≡ m = nth-length m k count s l there in
      let image = image_at true up (up_sound short) k count s rest (takes_new up paired.is_new count s) there l (takes _) in
      let stands : up_image a b r ++ [] ≡ nth n k (images_of true up count s ++ rest) = append-nil (up_image a b r) ∙ sym image in
      subst (λ (t : List ℕ). (fit_of (point_of b t) ≡ Ok tt) ↔ Comes r) stands (down_again_exactly b a paired r (bytes_take m (drop (k * m) s) (bytes_drop (k * m) s bytes)) [] (omega arith))

  module _ (count : ℕ) (s d : List ℕ) where
    -- an upgrade is answered where the new record isn't overlong and neither side is short
    pub upgrade_answered : length_of new extra ≤ 65535 → Enough old new extra count s d → (e : List ℕ) × (to_new_of old extra count s d ≡ (Ok (run_length new extra count), e))
    unfolding converted_of judged_of
    upgrade_answered long enough =
        let a = format_with old extra in
        let b = format_with new extra in
        let short : length_of old extra ≤ 65535 = omega (arith, (shorter b a paired).0) in (
          images_of true (plan_of a b) count s ++ drop (run_length new extra count) d,
          up-told pair extra count s d
              ∙ told-run true a b count s d short long
              ∙ rw (le-ltb (length s) (run_length old extra count) enough.0, le-ltb (length d) (run_length new extra count) enough.1),
        )

    module _ {n : ℕ} {e : List ℕ} (bytes : le.Bytes s) (h : to_new_of old extra count s d ≡ (Ok n, e)) where
      upgraded : NotOverlong old new extra × Written true (plan_of (format_with old extra) (format_with new extra)) count s d n e
      upgraded =
          let ran = told-bytes true (format_with old extra) (format_with new extra) count s d (sym (up-told pair extra count s d) ∙ h) in
          ((ran.0, ran.1), written true _ count s d ran.2)

      there : run_length old extra count ≤ length s
      there = (goes true (plan_of (format_with old extra) (format_with new extra)) count s upgraded.1.fits).there

      each_again : (k : ℕ) → k < count → (fit_of (point_at new extra k e) ≡ Ok tt) ↔ Comes (nth (length_of old extra) k s)
      each_again k l =
          subst (λ (t : List ℕ). (fit_of (point_at new extra k t) ≡ Ok tt) ↔ Comes (nth (length_of old extra) k s)) (sym upgraded.1.stands) (each_back upgraded.0 count s _ bytes there k l)

      -- and what it leaves goes down to the run's own bytes
      pub answered_back : No28 old extra count s → AllWithin90 old extra count s → (d' : List ℕ) → run_length old extra count ≤ length d' → to_old_of new extra count e d' ≡ (Ok (run_length old extra count), laid (run_length old extra count) s d')
      answered_back class ranks d' room =
          let a = format_with old extra in
          let b = format_with new extra in
          let up = plan_of a b in
          let short = upgraded.0 in
          let rest = drop (run_length new extra count) d in
          let images = images_of true up count s in
          let size : length images ≡ run_length new extra count = images-length true up (up_sound short) count s (takes_new up paired.is_new count s) there in
          let long : run_length new extra count ≤ length (images ++ rest) = simp length-append (omega arith) in
          then_converted new extra count e d' (record {
            old = old;
            pair = way_back pair;
            not-overlong = (short.1, short.0);
            enough = (rw upgraded.1.stands long, room);
            all-fit = λ k l. (each_again k l).1 (class k l, ranks k l);
          })
          ∙ ap (λ (t : List ℕ). (Ok (run_length old extra count), images_of false (plan_of b a) count t ++ drop (run_length old extra count) d')) upgraded.1.stands
          ∙ ap (λ (t : List ℕ). (Ok (run_length old extra count), t ++ drop (run_length old extra count) d')) (run_back short count s rest bytes there (λ k l. (class k l, ranks k l)))

      -- which it does only then
      pub back_only : (d' : List ℕ) {n' : ℕ} {e' : List ℕ} → to_old_of new extra count e d' ≡ (Ok n', e') → No28 old extra count s × AllWithin90 old extra count s
      back_only d' w =
          let fits = (converted_then new extra count e d' w).all-fit in
          (λ k l. ((each_again k l).0 (fits k l)).0, λ k l. ((each_again k l).0 (fits k l)).1)
