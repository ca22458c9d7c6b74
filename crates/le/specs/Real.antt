-- A float kept bit for bit: the value, and beside it the pattern where that is a NaN's, since the logic's floats have one NaN.
use Rattle.std.specs.Prelude.{ℕ, ◌<◌, ◌*◌, ◌^◌, ◌≡◌, refl, Bool, true, false, not, cond, ◌&&◌, T, Float}
use Rattle.std.proofs.Common.{sym, subst, ◌∙◌}
use Rattle.std.specs.Float.{Format, binary32, binary64}
use Rattle.std.specs.Float.Ieee.{of_bits, to_bits, is_nan, nan_bits, top}
use Rattle.std.specs.Float.Ieee.Bits.{to_bits-of_bits, nan_bits_is}
use Rattle.le.specs.declared.float.F32.{F32}
use Rattle.le.specs.declared.float.F64.{F64}

-- what is kept beside the value of the pattern n
unfoldable pub nan_of : Format → ℕ → ℕ
nan_of f n = cond (nan_bits f n) n 0

-- the pattern of a value and what is kept beside it: of a NaN the pattern kept, where that is a NaN's, and else the value's
-- own, which of a NaN is the quiet one, 0x7FC00000 or 0x7FF8000000000000
unfoldable pub pattern_of : Format → Float → ℕ → ℕ
pattern_of f x n = cond (is_nan x && nan_bits f n) n (to_bits f x)

unfoldable pub f32_of : ℕ → F32
f32_of n = record { value = of_bits binary32 n; nan = nan_of binary32 n }

unfoldable pub f32_bits_of : F32 → ℕ
f32_bits_of x = pattern_of binary32 x.value x.nan

unfoldable pub f64_of : ℕ → F64
f64_of n = record { value = of_bits binary64 n; nan = nan_of binary64 n }

unfoldable pub f64_bits_of : F64 → ℕ
f64_bits_of x = pattern_of binary64 x.value x.nan

-- One law for both formats: every pattern comes back, a NaN's too.
pub pattern_kept : (f : Format) (n : ℕ) → n < 2 * top f → pattern_of f (of_bits f n) (nan_of f n) ≡ n
unfolding nan_of pattern_of
pattern_kept f n h = go (is_nan (of_bits f n)) refl
  where
    go : (b : Bool) → is_nan (of_bits f n) ≡ b → pattern_of f (of_bits f n) (nan_of f n) ≡ n
    go true e = let k : nan_bits f n ≡ true = nan_bits_is f n ∙ e in rw (e, k, k)
    go false e = rw e (to_bits-of_bits f n h (subst (λ (b : Bool). T (not b)) (sym e) tt))

pub f32_kept : (n : ℕ) → n < 2 ^ 32 → f32_bits_of (f32_of n) ≡ n
unfolding f32_of f32_bits_of
f32_kept n h = pattern_kept binary32 n h

pub f64_kept : (n : ℕ) → n < 2 ^ 64 → f64_bits_of (f64_of n) ≡ n
unfolding f64_of f64_bits_of
f64_kept n h = pattern_kept binary64 n h

-- the bits of a float, from its value and what is kept beside it
pub f32_bits_is : (x : F32) → f32_bits_of x ≡ pattern_of binary32 x.value x.nan
unfolding f32_bits_of
f32_bits_is x = refl

pub f64_bits_is : (x : F64) → f64_bits_of x ≡ pattern_of binary64 x.value x.nan
unfolding f64_bits_of
f64_bits_is x = refl
