use Rattle.walker.specs.Begin.{walker_of}
use Rattle.walker.proofs.Walker.new.Goals as goal

pub returns : goal.returns
unfolding walker_of
returns c = rw c.begin-place.ensures
