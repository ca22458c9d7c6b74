use mathlib.Core.Bool.{and_assoc}
use Rattle.header_convert.specs.Turned.{is_of}
use Rattle.header_convert.proofs.is_of.Goals as goal

pub returns : goal.returns
unfolding is_of
returns c = simp and_assoc
