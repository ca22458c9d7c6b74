use mathlib.Core.Path.{refl}
use Rattle.capi_attribute.specs.Rows.{place_numbers}
use Rattle.capi_attribute.proofs.place_numbers.Goals as goal

pub returns : goal.returns
unfolding place_numbers
returns c = refl
