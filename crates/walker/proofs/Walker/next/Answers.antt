use mathlib.Core.Path.{ap}
use Rattle.walker.specs.Walk.{next_by, next_of}
use Rattle.walker.proofs.Walker.next.Goals as goal

pub returns : goal.returns
unfolding next_of
returns c = ap (next_by c.args.self.now) c.take_at-took.ensures
