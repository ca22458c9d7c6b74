use Rattle.walker.specs.Begin.{refused_place}
use Rattle.walker.proofs.refused_place.Goals as goal

pub returns : goal.returns
unfolding refused_place
returns c = rw c.default.ensures
