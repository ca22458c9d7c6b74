use Rattle.format.specs.Format.{plain}
use Rattle.format.proofs.FormatDefault.default.Goals as goal

pub returns : goal.returns
unfolding plain
returns c = cc
