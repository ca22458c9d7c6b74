use mathlib.Core.Path.{sym, subst, ◌∙◌}
use mathlib.Core.Bool.{Bool, not}
use lib.Dec.{T}
use lib.Ieee.{binary32}
use Rattle.le.specs.Real.{f32_bits_of}
use Rattle.le.proofs.Nans.{nan-written, quiet_written, quiet, number-written}
use Rattle.le.proofs.float.F32.to_bits.Goals as goal

-- Cites the laws of a NaN's pattern and of a number's.
pub float_to_bits-result : goal.float_to_bits-result
float_to_bits-result c = subst (λ (b : Bool). T (not b)) (sym (sym c.is_nan.ensures.value ∙ c.if-not-is_nan.true)) tt

pub returns-then-not-is_nan : goal.returns-then-not-is_nan
unfolding f32_bits_of
returns-then-not-is_nan c = number-written binary32 _ _ (sym c.is_nan.ensures.value ∙ c.if-not-is_nan.true)

pub returns-then-self-gt2139095040 : goal.returns-then-self-gt2139095040
unfolding f32_bits_of
returns-then-self-gt2139095040 c = nan-written binary32 _ _ (sym c.is_nan.ensures.value ∙ c.if-not-is_nan.false) c.if-self-gt2139095040.true

pub returns-else-self-gt2139095040 : goal.returns-else-self-gt2139095040
unfolding f32_bits_of
returns-else-self-gt2139095040 c = sym quiet.0 ∙ quiet_written binary32 _ _ (sym c.is_nan.ensures.value ∙ c.if-not-is_nan.false) c.if-self-gt2139095040.false
