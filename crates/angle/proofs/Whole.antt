-- The whole part of an f32 that is no NaN, by what the code reads off its pattern. Assumes nothing.
use Prim.Native.Nat.{ℕ, ◌/◌, ◌%◌, ◌<◌, ◌≤◌, ◌^◌}
use mathlib.Core.Path.{◌≡◌, sym, ap, subst, ◌∙◌}
use mathlib.Core.Bool.{Bool, false, not}
use native.Mathlib.Nat.{mod-lt}
use native.Mathlib.Omega.{arith}
use lib.Dec.{T, leb}
use lib.IntN.{pos}
use lib.Pow.{pow_pos}
use lib.Ieee.{Float, nan, inf, fin, binary32, fits, is_nan, of_fields, of_bits, to_bits, to_signed, ne}
use lib.Ieee.Bits.{of_bits-to_bits}
use Rattle.angle.proofs.Held.{signed, signed-zero, end}
use Rattle.angle.proofs.Fields.{whole, whole-none, whole-fits, fields-cut, fields_stopped}

abbrev pub negative : Float → Bool
negative x = leb (2 ^ 31) (to_bits binary32 x)

abbrev pub exponent : Float → ℕ
exponent x = to_bits binary32 x % 2 ^ 31 / 2 ^ 23

abbrev digits : Float → ℕ
digits x = to_bits binary32 x % 2 ^ 23

abbrev pub part : Float → ℕ
part x = whole (exponent x) (digits x)

pub no_nan : (x : Float) → ne x x ≡ false → T (not (is_nan x))
unfolding ne is_nan
no_nan nan e = absurd (subst T e tt)
no_nan (inf s) e = tt
no_nan (fin s m d) e = tt

module _ (x : Float) where
  digits_lt : digits x < 2 ^ 23
  digits_lt = mod-lt (to_bits binary32 x) (pow_pos 23)

  pub part-fits : exponent x ≤ 141 → part x < 2 ^ 15
  part-fits = whole-fits (digits x) digits_lt (exponent x)

  module _ (f : T (fits binary32 x)) where
    fields : x ≡ of_fields binary32 (negative x) (exponent x) (digits x)
    unfolding of_bits
    fields = sym (of_bits-to_bits binary32 x f)

    pub is_part : exponent x ≤ 141 → to_signed 15 x ≡ signed (negative x) (part x)
    is_part h = ap (to_signed 15) fields ∙ fields-cut (digits x) digits_lt (negative x) (exponent x) h

    pub is_zero : exponent x < 127 → to_signed 15 x ≡ pos 0
    is_zero h = is_part (omega arith) ∙ rw (whole-none (digits x) digits_lt (exponent x) h) (signed-zero (negative x))

    pub is_end : 141 < exponent x → T (not (is_nan x)) → to_signed 15 x ≡ end 15 (negative x)
    is_end h n =
        ap (to_signed 15) fields
        ∙ fields_stopped (digits x) digits_lt (negative x) (exponent x) h (subst (λ (y : Float). T (not (is_nan y))) fields n)
