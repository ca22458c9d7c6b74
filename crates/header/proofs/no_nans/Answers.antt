use mathlib.Core.Path.{refl}
use Rattle.header.specs.Header.{default_header}
use Rattle.header.proofs.no_nans.Goals as goal

pub returns : goal.returns
unfolding default_header
returns c = refl
