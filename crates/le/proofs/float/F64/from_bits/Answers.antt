use mathlib.Core.Path.{sym, subst}
use native.Mathlib.Omega.{arith}
use mathlib.Core.Bool.{Bool, not}
use lib.Dec.{T}
use lib.Ieee.{binary64}
use Rattle.le.specs.Real.{f64_of}
use Rattle.le.proofs.Nans.{nan_read, number, number_read}
use Rattle.le.proofs.float.F64.from_bits.Goals as goal

-- Cites the laws of a NaN's pattern and of a number's.
pub float_from_bits-result : goal.float_from_bits-result
float_from_bits-result c = subst (λ (b : Bool). T (not b)) (sym (number binary64 c.args.n c.if-n-gt9218868437227405312.false)) tt

pub returns-then-n-gt9218868437227405312 : goal.returns-then-n-gt9218868437227405312
unfolding f64_of
returns-then-n-gt9218868437227405312 c = let e = nan_read binary64 9221120237041090560 c.args.n (omega arith) c.if-n-gt9218868437227405312.true in λ i. record { value = e.0 i; nan = e.1 i }

pub returns-else-n-gt9218868437227405312 : goal.returns-else-n-gt9218868437227405312
unfolding f64_of
returns-else-n-gt9218868437227405312 c = cc (number_read binary64 c.args.n c.if-n-gt9218868437227405312.false)
