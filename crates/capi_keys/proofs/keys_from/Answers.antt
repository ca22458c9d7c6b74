use mathlib.Core.Path.{refl}
use Rattle.capi_keys.specs.Rows.{keys_from}
use Rattle.capi_keys.proofs.keys_from.Goals as goal

pub returns : goal.returns
unfolding keys_from
returns c = refl
