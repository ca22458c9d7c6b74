-- One record more: a turn of the count.
use Rattle.std.specs.Prelude.{Some, None}
use Prim.Native.Nat.{ℕ, zero, suc, ◌+◌, ◌-◌, ◌*◌, ◌≤◌, ◌<◌}
use mathlib.Core.Path.{◌≡◌, refl, ap, sym, ◌∙◌}
use mathlib.Core.Bool.{Bool}
use mathlib.Core.List.{List}
use native.Mathlib.Nat.{add-mul, zero-mul, mul-le-mul_right}
use native.Mathlib.Numerals.{add-one}
use native.Mathlib.Omega.{arith}
use lib.ListN.{length, take, drop, set, get_or, replicate}
use Rattle.sheet_count.specs.declared.Extent.{Extent}
use Rattle.sheet_count.specs.Count.{counts_of, bounds_of, both_extents, extents_of, class_in, return_in, extent_in, part_at, tallied_at}
use Rattle.sheet_count.specs.Laws.{none-counted, one-counted, length_counts, most-counted}

module _ (e : Bool) (first stride n : ℕ) (s : List ℕ) where
  abbrev class : ℕ → ℕ
  class i = class_in e (part_at first stride s i)

  abbrev number : ℕ → ℕ
  number i = return_in e (part_at first stride s i)

  abbrev extent : ℕ → Extent
  extent i = extent_in (part_at first stride s i)

  -- before turn i
  pub record Counting (classes returns : List ℕ) (x : Extent) (i : ℕ) : Type 0 where
    pub below : i ≤ n
    pub class_counts : classes ≡ counts_of 256 class i
    pub return_counts : returns ≡ counts_of 16 number i
    pub extents : x ≡ extents_of extent i

  -- the part that is read is that of the record
  pub cut : (at i : ℕ) → at ≡ first + i * stride → take (at + 20 - at) (drop at s) ≡ part_at first stride s i
  cut at i is = let twenty : at + 20 - at ≡ 20 = omega arith in rw (twenty, is)

  pub begun : {classes returns : List ℕ} {x : Extent} → classes ≡ replicate 256 0 → returns ≡ replicate 16 0 → x ≡ extent_in (take (first + 20 - first) (drop first s)) → Counting classes returns x 0
  unfolding extents_of
  begun no-classes no-returns is =
      let place : first ≡ first + 0 * stride = omega (arith, zero-mul stride) in
      record {
        below = omega arith;
        class_counts = no-classes ∙ sym (none-counted 256 class);
        return_counts = no-returns ∙ sym (none-counted 16 number);
        extents = is ∙ ap extent_in (cut first 0 place);
      }

  module _ {classes returns : List ℕ} {x : Extent} {i : ℕ} (inv : Counting classes returns x i) where
    abbrev at : ℕ
    at = first + i * stride

    -- what a turn needs: the record stands in s, and there is room for one more
    pub stands : 20 ≤ stride → first + n * stride ≤ length s → i < n → at + stride ≤ length s
    stands wide all h =
        let upto : (i + 1) * stride ≤ n * stride = mul-le-mul_right stride (omega arith) in
        omega (arith, add-mul i 1 stride)

    pub class-room : (k : ℕ) → k < 256 → (length classes ≡ 256) × (get_or classes k 0 ≤ i)
    class-room k h = rw inv.class_counts (length_counts 256 class i, most-counted 256 class i k h)

    pub return_room : (k : ℕ) → k < 16 → (length returns ≡ 16) × (get_or returns k 0 ≤ i)
    return_room k h = rw inv.return_counts (length_counts 16 number i, most-counted 16 number i k h)

    abbrev part : List ℕ
    part = take (at + 20 - at) (drop at s)

    module _ {c r : ℕ} {y z : Extent} where
      pub step : i < n → c ≡ class_in e part → r ≡ return_in e part → y ≡ extent_in part → z ≡ both_extents x y
          → Counting (set classes c (get_or classes c 0 + 1)) (set returns r (get_or returns r 0 + 1)) z (i + 1)
      unfolding extents_of
      step h is-class is-return is-extent is-both =
          let here = cut at i refl in
          let one_class = is-class ∙ ap (class_in e) here in
          let one_return = is-return ∙ ap (return_in e) here in
          let one-extent = is-extent ∙ ap extent_in here in
          record {
            below = omega arith;
            class_counts = rw (inv.class_counts, one_class) (sym (one-counted 256 class i));
            return_counts = rw (inv.return_counts, one_return) (sym (one-counted 16 number i));
            extents = rw add-one (is-both ∙ (λ j. both_extents (inv.extents j) (one-extent j)));
          }

  -- all are counted
  some-bounds : (k : ℕ) → 0 < k → Some (extents_of extent k) ≡ bounds_of extent k
  some-bounds zero h = absurd (omega arith)
  some-bounds (suc k) h = refl

  pub done : {classes returns : List ℕ} {x : Extent} {i : ℕ} → Counting classes returns x i → 0 < n → n ≤ i → record { points = n; classes = classes; returns = returns; bounds = Some x } ≡ tallied_at e first stride n s
  unfolding tallied_at
  done {i = i} inv some h =
      let all : i ≡ n = omega (arith, inv.below) in
      λ j. record {
        points = n;
        classes = (inv.class_counts ∙ ap (counts_of 256 class) all) j;
        returns = (inv.return_counts ∙ ap (counts_of 16 number) all) j;
        bounds = (ap Some (inv.extents ∙ ap (extents_of extent) all) ∙ some-bounds n some) j;
      }

  pub nothing : {classes returns : List ℕ} → n ≡ 0 → classes ≡ replicate 256 0 → returns ≡ replicate 16 0 → record { points = 0; classes = classes; returns = returns; bounds = None } ≡ tallied_at e first stride n s
  unfolding tallied_at
  nothing none no-classes no-returns =
      rw none (λ j. record {
        points = 0;
        classes = (no-classes ∙ sym (none-counted 256 class)) j;
        returns = (no-returns ∙ sym (none-counted 16 number)) j;
        bounds = None;
      })
