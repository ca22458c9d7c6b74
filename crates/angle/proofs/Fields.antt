-- The whole part of the f32 that a sign s, an exponent field e and the digits t stand for. Where e is not 0 its size is
-- (2 ^ 23 + t) * 2 ^ e / 2 ^ 150: below 1 up to e = 126, and 2 ^ 15 or more from e = 142 on. Assumes nothing.
use Prim.Native.Nat.{ℕ, zero, suc, ◌+◌, ◌-◌, ◌*◌, ◌/◌, ◌<◌, ◌≤◌, ◌^◌}
use mathlib.Core.Path.{◌≡◌, sym, ap, ◌∙◌}
use mathlib.Core.Bool.{Bool, false, not}
use native.Mathlib.Nat.{lt_of_lt_of_le, le_trans, le_of_eq, mul-le-mul_right, le-add_right, le-div_iff_mul-le, div-eq_of_lt}
use native.Mathlib.Omega.{arith}
use borrow.Author.Tests.{ne_eqb}
use lib.Dec.{T, eqb}
use lib.Pow.{pow-add, pow_pos, pow_mono, shl_lt, shl-shr, shr-shr, shr_lt}
use lib.Ieee.{binary32, is_nan, of_fields, to_signed}
use lib.Ieee.Exact.{odd_sign}
use Rattle.angle.proofs.Held.{signed, end, cut, stopped, finite_or_infinite}

-- the digits with the leading one put back, cut after the point
abbrev pub whole : ℕ → ℕ → ℕ
whole e t = (2 ^ 23 + t) / 2 ^ (150 - e)

module _ (t : ℕ) (digits : t < 2 ^ 23) where
  shifted : (k n : ℕ) → 24 ≤ n + k → (2 ^ 23 + t) / 2 ^ k < 2 ^ n
  shifted k n h = shr_lt n k (lt_of_lt_of_le (omega arith) (pow_mono h))

  pub whole-none : (e : ℕ) → e < 127 → whole e t ≡ 0
  whole-none e h = omega (arith, shifted (150 - e) 0 (omega arith))

  pub whole-fits : (e : ℕ) → e ≤ 141 → whole e t < 2 ^ 15
  whole-fits e h = shifted (150 - e) 15 (omega arith)

  whole_is : (j : ℕ) → j < 141 → (2 ^ 23 + t) * 2 ^ j / 2 ^ 149 ≡ whole (suc j) t
  whole_is j h =
      let e : j + (150 - suc j) ≡ 149 = omega arith in
      ap (λ (k : ℕ). (2 ^ 23 + t) * 2 ^ j / 2 ^ k) (sym e) ∙ sym (shr-shr ((2 ^ 23 + t) * 2 ^ j) j (150 - suc j)) ∙ rw shl-shr

  too_large : (j : ℕ) → 141 ≤ j → 2 ^ 15 ≤ (2 ^ 23 + t) * 2 ^ j / 2 ^ 149
  too_large j h =
      let m : 164 ≤ 23 + j = omega arith in
      (le-div_iff_mul-le (pow_pos 149)).1
      (le_trans (pow_mono m) (le_trans (le_of_eq (pow-add 2 23 j)) (mul-le-mul_right (2 ^ j) (le-add_right (2 ^ 23) t))))

  module _ (s : Bool) where
    pub fields-cut : (e : ℕ) → e ≤ 141 → to_signed 15 (of_fields binary32 s e t) ≡ signed s (whole e t)
    unfolding of_fields
    fields-cut zero h =
        let m : 23 + 0 ≤ 149 = omega arith in
        let z : t * 2 ^ 0 / 2 ^ 149 ≡ 0 = div-eq_of_lt (lt_of_lt_of_le (shl_lt 23 0 digits) (pow_mono m)) in
        cut 15 _ s (t * 2 ^ 0) (2 ^ 149) (pow_pos 149) (odd_sign 24 s t 0 149) (rw z (omega arith)) ∙ rw (z, whole-none 0 (omega arith))
    fields-cut (suc j) h =
        let n : eqb (suc j) 255 ≡ false = ne_eqb (suc j) 255 (λ e. omega arith) in
        rw (n, ← whole_is j h)
        (cut 15 _ s ((2 ^ 23 + t) * 2 ^ j) (2 ^ 149) (pow_pos 149) (odd_sign 24 s (2 ^ 23 + t) j 149)
        (rw (whole_is j h) (whole-fits (suc j) h)))

    pub fields_stopped : (e : ℕ) → 141 < e → T (not (is_nan (of_fields binary32 s e t))) → to_signed 15 (of_fields binary32 s e t) ≡ end 15 s
    unfolding of_fields
    fields_stopped zero h n = absurd (omega arith)
    fields_stopped (suc j) h n =
        finite_or_infinite 15 s (eqb (suc j) 255) (eqb t 0) _ n
        (stopped 15 _ s ((2 ^ 23 + t) * 2 ^ j) (2 ^ 149) (pow_pos 149) (odd_sign 24 s (2 ^ 23 + t) j 149) (too_large j (omega arith)))
