use mathlib.Core.Path.{refl}
use Rattle.capi_attribute.specs.Rows.{place_from}
use Rattle.capi_attribute.proofs.place_from.Goals as goal

pub returns : goal.returns
unfolding place_from
returns c = refl
