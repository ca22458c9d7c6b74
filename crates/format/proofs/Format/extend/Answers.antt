use mathlib.Core.Path.{refl}
use Rattle.format.specs.Format.{extended_of}
use Rattle.format.proofs.Format.extend.Goals as goal

pub returns : goal.returns
unfolding extended_of
returns c = refl
