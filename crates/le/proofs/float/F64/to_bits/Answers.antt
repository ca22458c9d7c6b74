use mathlib.Core.Path.{sym, subst, ◌∙◌}
use mathlib.Core.Bool.{Bool, not}
use lib.Dec.{T}
use lib.Ieee.{binary64}
use Rattle.le.specs.Real.{f64_bits_of}
use Rattle.le.proofs.Nans.{nan-written, quiet_written, quiet, number-written}
use Rattle.le.proofs.float.F64.to_bits.Goals as goal

-- Cites the laws of a NaN's pattern and of a number's.
pub float_to_bits-result : goal.float_to_bits-result
float_to_bits-result c = subst (λ (b : Bool). T (not b)) (sym (sym c.is_nan.ensures.value ∙ c.if-not-is_nan.true)) tt

pub returns-then-not-is_nan : goal.returns-then-not-is_nan
unfolding f64_bits_of
returns-then-not-is_nan c = number-written binary64 _ _ (sym c.is_nan.ensures.value ∙ c.if-not-is_nan.true)

pub returns-then-self-gt9218868437227405312 : goal.returns-then-self-gt9218868437227405312
unfolding f64_bits_of
returns-then-self-gt9218868437227405312 c = nan-written binary64 _ _ (sym c.is_nan.ensures.value ∙ c.if-not-is_nan.false) c.if-self-gt9218868437227405312.true

pub returns-else-self-gt9218868437227405312 : goal.returns-else-self-gt9218868437227405312
unfolding f64_bits_of
returns-else-self-gt9218868437227405312 c = sym quiet.1 ∙ quiet_written binary64 _ _ (sym c.is_nan.ensures.value ∙ c.if-not-is_nan.false) c.if-self-gt9218868437227405312.false
