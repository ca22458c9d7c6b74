-- Signed arithmetic in 32 bits on a number of fewer bits: `k * (z as i32)`, and a quotient taken back to 16 bits. Assumes nothing.
use Prim.Native.Nat.{ℕ, ◌+◌, ◌*◌, ◌/◌, ◌<◌, ◌≤◌, ◌^◌}
use mathlib.Core.Path.{◌≡◌}
use native.Mathlib.Nat.{mul-le-mul_left}
use native.Mathlib.Omega.{arith}
use lib.IntN.{ℤ, pos, nat_abs, ◌*ℤ◌}
use lib.Signed.{nat_abs-le, quot_z}
use mir.Syntax.{Width, w16, w32}
use mir.Val.{SFits, of_z, to_z, hbits}
use mir.ValLaws.{to_z-of_z}
use Rattle.angle.specs.Sign.{sided, own_size, times, over, sided-fits}

-- `k * (z as i32)`, as the machine works it out for a z of the width v
abbrev pub wide : Width → ℕ → ℤ → ℤ
wide v k z = pos k *ℤ to_z w32 (of_z w32 (to_z v (of_z v z)))

pub record Product (v : Width) (k : ℕ) (z : ℤ) : Type 0 where
  pub cast : SFits w32 (to_z v (of_z v z))
  pub mul : SFits w32 (wide v k z)
  pub is : wide v k z ≡ pos k *ℤ z

pub product : (v : Width) (k : ℕ) (z : ℤ) → SFits v z → 2 ^ hbits v + k * 2 ^ hbits v < 2 ^ 31 → Product v k z
product v k z h room =
    let small : nat_abs z ≤ 2 ^ hbits v = nat_abs-le z h.sfits in
    let fits : SFits w32 z = rw own_size at (sided-fits w32 z (nat_abs z) (omega arith)) in
    let most : k * nat_abs z < 2 ^ 31 = omega (arith, mul-le-mul_left k small) in
    record {
      cast = rw to_z-of_z fits;
      mul = rw (to_z-of_z v, to_z-of_z w32, times) (sided-fits w32 z (k * nat_abs z) most);
      is = rw (to_z-of_z v, to_z-of_z w32);
    }

-- x / b as an i16, where x is a on z's side of zero
pub record Quotient (x z : ℤ) (a b : ℕ) : Type 0 where
  pub div : (0 < b) × SFits w32 (quot_z (to_z w32 (of_z w32 x)) (pos b))
  pub cast : SFits w16 (to_z w32 (of_z w32 (quot_z (to_z w32 (of_z w32 x)) (pos b))))
  pub is : to_z w16 (of_z w16 (to_z w32 (of_z w32 (quot_z (to_z w32 (of_z w32 x)) (pos b))))) ≡ sided z (a / b)

pub quotient : (x z : ℤ) (a b : ℕ) → x ≡ sided z a → 0 < b → a < 2 ^ 31 → a / b < 2 ^ 15 → Quotient x z a b
quotient x z a b e p most small =
    let stored : SFits w32 (sided z a) = sided-fits w32 z a most in
    let fits : SFits w32 (sided z (a / b)) = sided-fits w32 z (a / b) (omega arith) in
    let narrow : SFits w16 (sided z (a / b)) = sided-fits w16 z (a / b) small in
    record {
      div = (p, rw (e, to_z-of_z w32, over) fits);
      cast = rw (e, to_z-of_z w32 (sided z a), over, to_z-of_z w32) narrow;
      is = rw (e, to_z-of_z w32 (sided z a), over, to_z-of_z w32, to_z-of_z w16);
    }
