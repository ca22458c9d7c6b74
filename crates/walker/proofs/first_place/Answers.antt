use Rattle.walker.specs.Begin.{first_place}
use Rattle.walker.proofs.first_place.Goals as goal

pub returns : goal.returns
unfolding first_place
returns c = rw c.point_format.ensures
