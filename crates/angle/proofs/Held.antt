-- What `to_signed h` makes of a float, by its sign and the whole part of its size. Assumes nothing.
use Prim.Native.Nat.{ℕ, ◌-◌, ◌*◌, ◌/◌, ◌<◌, ◌≤◌, ◌^◌, min}
use mathlib.Core.Path.{◌≡◌, refl, ◌∙◌}
use mathlib.Core.Bool.{Bool, true, false, not, cond}
use native.Mathlib.Nat.{min-eq_left, min-eq_right}
use native.Mathlib.Omega.{arith}
use lib.Dec.{T}
use lib.IntN.{ℤ, pos, neg_ℤ}
use lib.Ieee.{Float, nan, inf, fin, up, down, is_nan, to_signed}
use lib.Ieee.Exact.{HasValue}
use lib.Ieee.Fits.{down_pos}
use lib.Ieee.Nearest.{div_same}

abbrev pub signed : Bool → ℕ → ℤ
signed s v = cond s (neg_ℤ (pos v)) (pos v)

pub signed-zero : (s : Bool) → signed s 0 ≡ pos 0
signed-zero true = refl
signed-zero false = refl

-- the end of the range on the side of the sign s
abbrev pub end : ℕ → Bool → ℤ
end h s = cond s (neg_ℤ (pos (2 ^ h))) (pos (2 ^ h - 1))

abbrev within : ℕ → Bool → ℕ → ℤ
within h s v = cond s (neg_ℤ (pos (min v (2 ^ h)))) (pos (min v (2 ^ h - 1)))

of-value : (h : ℕ) (x : Float) (s : Bool) (a c : ℕ) → 0 < c → HasValue x s a c → to_signed h x ≡ within h s (a / c)
unfolding to_signed
of-value h nan s a c p v = absurd v
of-value h (inf t) s a c p v = absurd v
of-value h (fin t m e) s a c p v = rw (v.0, div_same (m * up e) (down e) a c (down_pos e) p v.1)

below : (h : ℕ) (s : Bool) (v : ℕ) → v < 2 ^ h → within h s v ≡ signed s v
below h true v l = let m : v ≤ 2 ^ h = omega arith in rw min-eq_left
below h false v l = let m : v ≤ 2 ^ h - 1 = omega arith in rw min-eq_left

above : (h : ℕ) (s : Bool) (v : ℕ) → 2 ^ h ≤ v → within h s v ≡ end h s
above h true v l = rw min-eq_right
above h false v l = let m : 2 ^ h - 1 ≤ v = omega arith in rw min-eq_right

module _ (h : ℕ) (x : Float) (s : Bool) (a c : ℕ) (p : 0 < c) (v : HasValue x s a c) where
  pub cut : a / c < 2 ^ h → to_signed h x ≡ signed s (a / c)
  cut l = of-value h x s a c p v ∙ below h s (a / c) l

  pub stopped : 2 ^ h ≤ a / c → to_signed h x ≡ end h s
  stopped l = of-value h x s a c p v ∙ above h s (a / c) l

-- an exponent field of all ones is an infinity's or a NaN's
pub finite_or_infinite : (h : ℕ) (s a b : Bool) (x : Float) → T (not (is_nan (cond a (cond b (inf s) nan) x)))
    → to_signed h x ≡ end h s → to_signed h (cond a (cond b (inf s) nan) x) ≡ end h s
unfolding to_signed is_nan
finite_or_infinite h s true true x n e = refl
finite_or_infinite h s true false x n e = absurd n
finite_or_infinite h s false b x n e = e
