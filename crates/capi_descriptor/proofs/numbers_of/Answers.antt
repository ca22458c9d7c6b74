use mathlib.Core.Path.{refl}
use Rattle.capi_descriptor.specs.Rows.{numbers_of}
use Rattle.capi_descriptor.proofs.numbers_of.Goals as goal

pub returns : goal.returns
unfolding numbers_of
returns c = refl
