use mathlib.Core.Path.{sym, subst}
use native.Mathlib.Omega.{arith}
use mathlib.Core.Bool.{Bool, not}
use lib.Dec.{T}
use lib.Ieee.{binary32}
use Rattle.le.specs.Real.{f32_of}
use Rattle.le.proofs.Nans.{nan_read, number, number_read}
use Rattle.le.proofs.float.F32.from_bits.Goals as goal

-- Cites the laws of a NaN's pattern and of a number's.
pub float_from_bits-result : goal.float_from_bits-result
float_from_bits-result c = subst (λ (b : Bool). T (not b)) (sym (number binary32 c.args.n c.if-n-gt2139095040.false)) tt

pub returns-then-n-gt2139095040 : goal.returns-then-n-gt2139095040
unfolding f32_of
returns-then-n-gt2139095040 c = let e = nan_read binary32 2143289344 c.args.n (omega arith) c.if-n-gt2139095040.true in λ i. record { value = e.0 i; nan = e.1 i }

pub returns-else-n-gt2139095040 : goal.returns-else-n-gt2139095040
unfolding f32_of
returns-else-n-gt2139095040 c = cc (number_read binary32 c.args.n c.if-n-gt2139095040.false)
