use Prim.Native.Nat.{◌+◌, ◌*◌, ◌/◌, ◌≤◌}
use mathlib.Core.Path.{◌≡◌, ap, sym, ◌∙◌}
use native.Mathlib.Omega.{arith}
use lib.IntN.{ℤ, nat_abs, ◌+ℤ◌}
use lib.Signed.{nat_abs-le}
use mir.Syntax.{w16, w32}
use mir.Val.{to_z, of_z}
use mir.ValLaws.{to_z-of_z}
use Rattle.angle.specs.Angle.{nearest, nearest_rank}
use Rattle.angle.specs.Sign.{sided, by_test, own_size, times, plus, rank_size}
use Rattle.angle.proofs.Wide.{wide, Product, product, Quotient, quotient}
use Rattle.angle.proofs.nearest_rank.Goals as goal
use Rattle.angle.proofs.nearest_rank.Goals.{Joined-n-lt0, then-n-lt0, else-n-lt0}

-- The sum is 6|n| + 500 on n's side of zero.
module _ (c : Joined-n-lt0) where
  abbrev n : ℤ
  n = c.args.n

  small : nat_abs n ≤ 32768
  small = nat_abs-le n c.ranges.n.sfits

  six : Product w16 6 n
  six = product w16 6 n c.ranges.n (omega arith)

  half : to_z w32 c.if-n-lt0.half-bits ≡ sided n 500
  half =
      let h = c.ranges.n in
      elim c.if-n-lt0.branch [
        | then-n-lt0 w ↦ w.half-is ∙ sym (by_test n 500 ∙ rw (rw to_z-of_z at w.if-n-lt0.true))
        | else-n-lt0 w ↦ w.half-is ∙ sym (by_test n 500 ∙ rw (rw to_z-of_z at w.if-n-lt0.false))
      ]

  abbrev sum : ℤ
  sum = to_z w32 (of_z w32 (wide w16 6 n)) +ℤ to_z w32 c.if-n-lt0.half-bits

  sum_is : sum ≡ sided n (6 * nat_abs n + 500)
  sum_is = rw (to_z-of_z w32 (wide w16 6 n) six.mul, six.is, half, times) (plus n (6 * nat_abs n) 500)

  over-1000 : Quotient sum n (6 * nat_abs n + 500) 1000
  over-1000 = quotient sum n (6 * nat_abs n + 500) 1000 sum_is (omega arith) (omega (arith, small)) (omega (arith, small))

  is : sided n ((6 * nat_abs n + 500) / 1000) ≡ nearest_rank n
  unfolding nearest
  is = sym (rank_size n (nat_abs n)) ∙ ap nearest_rank (own_size n)

pub overflow_cast-result : goal.overflow_cast-result
overflow_cast-result c = (six c).cast

pub overflow_mul-result : goal.overflow_mul-result
overflow_mul-result c = (six c).mul

pub nonzero_div-result : goal.nonzero_div-result
nonzero_div-result c = (over-1000 c).div

pub overflow_cast-result-2 : goal.overflow_cast-result-2
overflow_cast-result-2 c = (over-1000 c).cast

pub returns : goal.returns
returns c = (over-1000 c).is ∙ is c
