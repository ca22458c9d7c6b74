-- Sameness of angles is an equivalence: each angle has a place, its 500th parts of a degree, which are 500r of a rank r and 3n of a
-- scaled n, and two angles are the same where their places are.
use Rattle.std.specs.Prelude.{◌≡◌, refl, Bool, true, ℤ, pos, negsuc, ◌*ℤ◌}
use Rattle.std.proofs.Common.{sym, ap, ◌∙◌, arith, eqb-true, eq-eqb}
use Rattle.std.proofs.lemmas.Int.{ints}
use Rattle.std.specs.Cmp.{IsEquivalence, decided, both_ways}
use Rattle.angle.specs.declared.ScanAngle.{ScanAngle}
use Rattle.angle.specs.declared.ScanAngle.TheVariants.{Rank, Scaled}
use Rattle.angle.specs.Angle.{eq_z, same_angle}

alike : (a b : ℤ) → eq_z a b ≡ true → a ≡ b
unfolding eq_z
alike (pos a) (pos b) e = ap pos (eqb-true a b e)
alike (pos a) (negsuc b) e = cc
alike (negsuc a) (pos b) e = cc
alike (negsuc a) (negsuc b) e = ap negsuc (eqb-true a b e)

itself : (a : ℤ) → eq_z a a ≡ true
unfolding eq_z
itself (pos a) = eq-eqb a a refl
itself (negsuc a) = eq-eqb a a refl

told : (a b : ℤ) → a ≡ b → eq_z a b ≡ true
told a b e = rw e (itself b)

whole-equivalence : IsEquivalence eq_z
whole-equivalence = decided eq_z (λ a b. (alike a b, told a b))

-- whole numbers are the same just where what is made of them is
made : (a b c d : ℤ) → (a ≡ b → c ≡ d) → (c ≡ d → a ≡ b) → eq_z a b ≡ eq_z c d
made a b c d f g = both_ways (eq_z a b) (eq_z c d) (λ e. told c d (f (alike a b e))) (λ e. told a b (g (alike c d e)))

abbrev place_of_angle : ScanAngle → ℤ
place_of_angle (Rank r) = pos 500 *ℤ r
place_of_angle (Scaled n) = pos 3 *ℤ n

by_place : (x y : ScanAngle) → same_angle x y ≡ eq_z (place_of_angle x) (place_of_angle y)
unfolding same_angle
by_place (Rank r) (Rank q) = made r q (pos 500 *ℤ r) (pos 500 *ℤ q) (ap (λ (z : ℤ). pos 500 *ℤ z)) (λ e. omega (arith, ints))
by_place (Rank r) (Scaled n) = refl
by_place (Scaled n) (Rank r) = whole-equivalence.symm (pos 500 *ℤ r) (pos 3 *ℤ n)
by_place (Scaled n) (Scaled m) = made n m (pos 3 *ℤ n) (pos 3 *ℤ m) (ap (λ (z : ℤ). pos 3 *ℤ z)) (λ e. omega (arith, ints))

pub same-equivalence : IsEquivalence same_angle
same-equivalence =
    let w = whole-equivalence in
    record {
      refl = λ x. by_place x x ∙ w.refl (place_of_angle x);
      symm = λ x y. by_place x y ∙ w.symm (place_of_angle x) (place_of_angle y) ∙ sym (by_place y x);
      congr = λ x y z e. by_place x z ∙ w.congr (place_of_angle x) (place_of_angle y) (place_of_angle z) (sym (by_place x y) ∙ e) ∙ sym (by_place y z);
    }
