-- Document 01, "Angles", rule by rule, in exact arithmetic.
use Rattle.std.specs.Prelude.{ℕ, suc, ◌+◌, ◌*◌, ◌/◌, Bool, false, cond, eqb, ℤ, pos, negsuc, neg_ℤ, ◌*ℤ◌, Float}
use Rattle.std.specs.Int.Signed.{lt_z, quot_z}
use Rattle.std.specs.Float.{binary32}
use Rattle.std.specs.Float.Ieee.{of_bits, of_int, mul, div, to_signed}
use Rattle.angle.specs.declared.ScanAngle.{ScanAngle}
use Rattle.angle.specs.declared.ScanAngle.TheVariants.{Rank, Scaled}

-- the nearest whole number to 6n/1000, a half going up
unfoldable pub nearest : ℕ → ℕ
nearest n = (6 * n + 500) / 1000

-- "Scaled n to rank: the nearest whole number to 6n/1000, halves away from zero", before it is held
unfoldable pub nearest_rank : ℤ → ℤ
nearest_rank (pos n) = pos (nearest n)
nearest_rank (negsuc k) = neg_ℤ (pos (nearest (suc k)))

-- "held at −128 and 127"
unfoldable pub held : ℤ → ℤ
held z = cond (lt_z z (neg_ℤ (pos 128))) (neg_ℤ (pos 128)) (cond (lt_z (pos 127) z) (pos 127) z)

unfoldable pub rank_of : ℤ → ℤ
rank_of n = held (nearest_rank n)

-- "Rank r to scaled: 500r/3, fraction dropped"
unfoldable pub scaled_of : ℤ → ℤ
scaled_of r = quot_z (pos 500 *ℤ r) (pos 3)

abbrev pub to_rank : ScanAngle → ℤ
to_rank (Rank r) = r
to_rank (Scaled n) = rank_of n

abbrev pub to_scaled : ScanAngle → ℤ
to_scaled (Rank r) = scaled_of r
to_scaled (Scaled n) = n

-- two whole numbers are the same
unfoldable pub eq_z : ℤ → ℤ → Bool
eq_z (pos a) (pos b) = eqb a b
eq_z (pos a) (negsuc b) = false
eq_z (negsuc a) (pos b) = false
eq_z (negsuc a) (negsuc b) = eqb a b

-- "Rank r equals scaled n exactly when 500r = 3n"
unfoldable pub same_angle : ScanAngle → ScanAngle → Bool
same_angle (Rank r) (Rank q) = eq_z r q
same_angle (Rank r) (Scaled n) = eq_z (pos 500 *ℤ r) (pos 3 *ℤ n)
same_angle (Scaled n) (Rank r) = eq_z (pos 500 *ℤ r) (pos 3 *ℤ n)
same_angle (Scaled n) (Scaled m) = eq_z n m

-- the f32 with bits 0x3BC49BA6, which is nearest to 0.006
unfoldable pub step : Float
step = of_bits binary32 0x3BC49BA6

-- "Degrees as f32 are n times the f32 with bits 0x3BC49BA6, rounded once": `mul` rounds the exact product once
abbrev pub to_degrees : ScanAngle → Float
to_degrees (Rank r) = of_int binary32 r
to_degrees (Scaled n) = mul binary32 (of_int binary32 n) step

-- "From an f32: the rounded quotient by that constant, fraction dropped, held at the ends of i16, NaN giving 0":
-- `div` rounds the exact quotient once, and `to_signed 15` drops the fraction, holds, and gives 0 for a NaN
unfoldable pub from_degrees : Float → ScanAngle
from_degrees x = Scaled (to_signed 15 (div binary32 x step))
