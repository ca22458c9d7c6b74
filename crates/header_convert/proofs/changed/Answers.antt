use mathlib.Core.Path.{refl}
use Rattle.header_convert.specs.Turned.{changed_of}
use Rattle.header_convert.proofs.changed.Goals as goal

pub returns : goal.returns
unfolding changed_of
returns c = refl
