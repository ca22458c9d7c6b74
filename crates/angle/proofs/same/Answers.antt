use Prim.Native.Nat.{ℕ, ◌≤◌}
use mathlib.Core.Path.{◌∙◌}
use native.Mathlib.Omega.{arith}
use mir.Syntax.{w8, w16, w32}
use Rattle.angle.proofs.Bits.{same_bits}
use Rattle.angle.proofs.Wide.{wide, Product, product}
use Rattle.angle.proofs.same.Goals as goal
use Rattle.angle.proofs.same.Goals.{Start}

-- Both products fit in 32 bits, by any factors up to 500, and there the same bits are the same number.
module _ (c : Start) (k : ℕ) (l : k ≤ 500) where
  rank : Product w8 k c.args.r
  rank = product w8 k c.args.r c.ranges.r (omega arith)

  scaled : Product w16 k c.args.n
  scaled = product w16 k c.args.n c.ranges.n (omega arith)

pub returns : goal.returns
returns c =
    let r = rank c 500 (omega arith) in
    let n = scaled c 3 (omega arith) in
    same_bits w32 (wide w8 500 c.args.r) (wide w16 3 c.args.n) r.mul.sfits n.mul.sfits ∙ rw (r.is, n.is)

pub overflow_cast-result : goal.overflow_cast-result
overflow_cast-result c = (rank c 1 (omega arith)).cast

pub overflow_mul-result : goal.overflow_mul-result
overflow_mul-result c = (rank c _ (omega arith)).mul

pub overflow_cast-result-2 : goal.overflow_cast-result-2
overflow_cast-result-2 c = (scaled c 1 (omega arith)).cast

pub overflow_mul-result-2 : goal.overflow_mul-result-2
overflow_mul-result-2 c = (scaled c _ (omega arith)).mul
