use Rattle.keys.specs.Keys.{projection_of}
use Rattle.keys.proofs.projection.Goals as goal

pub returns : goal.returns
unfolding projection_of
returns c = c.first.ensures
