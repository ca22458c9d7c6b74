use mathlib.Core.Path.{refl}
use Rattle.capi_attribute.specs.Rows.{attribute_from}
use Rattle.capi_attribute.proofs.attribute_from.Goals as goal

pub returns : goal.returns
unfolding attribute_from
returns c = refl
