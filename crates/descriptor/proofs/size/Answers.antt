use mathlib.Core.Path.{sym}
use native.Mathlib.Omega.{arith}
use Rattle.descriptor.specs.Sizes.{type_zero, type_other, above_ten}
use Rattle.descriptor.proofs.size.Goals as goal

pub returns-then-data_type-eq0 : goal.returns-then-data_type-eq0
returns-then-data_type-eq0 c = let a = c.args in sym (type_zero a.data_type a.options c.if-data_type-eq0.true)

pub returns-then-data_type-gt10 : goal.returns-then-data_type-gt10
returns-then-data_type-gt10 c = let a = c.args in sym (above_ten a.data_type a.options c.if-data_type-gt10.true)

pub returns : goal.returns
returns c = let a = c.args in sym (type_other a.data_type a.options (omega arith))
