-- Two's complement at every width: negation, and that numbers are the same exactly when their bits are. Assumes nothing.
use Prim.Native.Nat.{ℕ, suc, ◌-◌, ◌<◌, ◌^◌}
use mathlib.Core.Path.{◌≡◌, refl, sym, ap, ◌∙◌}
use mathlib.Core.Bool.{Bool, true, false}
use native.Mathlib.Omega.{arith}
use borrow.Author.Tests.{eqb-true, eqb-false, eq-eqb, ne_eqb}
use lib.Dec.{eqb}
use lib.IntN.{ℤ, pos, negsuc, neg_ℤ, ◌-ℤ◌, +ℤ_idl}
use lib.Signed.{mag}
use mir.Syntax.{Width}
use mir.Val.{SFits, of_z, to_z, bits, hbits}
use mir.ValLaws.{to_z-of_z, to_z_pos, pow-bits, half_full}
use Rattle.angle.specs.Angle.{eq_z}
use Rattle.angle.specs.Sign.{sided-fits}

-- `-n`, as the machine works it out for an n that is not negative
module _ (w : Width) (n : ℕ) (h : n < 2 ^ hbits w) where
  is_minus : pos 0 -ℤ to_z w n ≡ neg_ℤ (pos n)
  is_minus = rw (to_z_pos w n h) (+ℤ_idl (neg_ℤ (pos n)))

  pub minus_fits : SFits w (pos 0 -ℤ to_z w n)
  minus_fits = rw is_minus (sided-fits w (negsuc 0) n h)

  pub minus : to_z w (of_z w (pos 0 -ℤ to_z w n)) ≡ neg_ℤ (pos n)
  minus = to_z-of_z w (pos 0 -ℤ to_z w n) minus_fits ∙ is_minus

apart : (w : Width) {a b : ℕ} → a < 2 ^ hbits w → b < 2 ^ hbits w → a ≡ 2 ^ bits w - suc b → ⊥
apart w f g e = omega (arith, pow-bits w)

mirrored : (m : ℕ) {a b : ℕ} → a < m → b < m → m - suc a ≡ m - suc b → a ≡ b
mirrored m f g e = omega arith

pub same_bits : (w : Width) (a b : ℤ) → mag a < 2 ^ hbits w → mag b < 2 ^ hbits w → eqb (of_z w a) (of_z w b) ≡ eq_z a b
unfolding eq_z
same_bits w (pos a) (pos b) f g = refl
same_bits w (pos a) (negsuc b) f g = ne_eqb _ _ (apart w f g)
same_bits w (negsuc a) (pos b) f g = ne_eqb _ _ (λ e. apart w g f (sym e))
same_bits w (negsuc a) (negsuc b) f g = go (eqb a b) refl
  where
    go : (t : Bool) → eqb a b ≡ t → eqb (2 ^ bits w - suc a) (2 ^ bits w - suc b) ≡ t
    go true e = eq-eqb _ _ (ap (λ (k : ℕ). 2 ^ bits w - suc k) (eqb-true a b e))
    go false e = ne_eqb _ _ (λ q. eqb-false a b e (mirrored (2 ^ bits w) (half_full w f) (half_full w g) q))
