use mathlib.Core.Path.{refl}
use Rattle.capi_attribute.specs.Rows.{attribute_numbers}
use Rattle.capi_attribute.proofs.attribute_numbers.Goals as goal

pub returns : goal.returns
unfolding attribute_numbers
returns c = refl
