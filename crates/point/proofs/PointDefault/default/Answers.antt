use Rattle.point.specs.Read.{no_point}
use Rattle.point.proofs.PointDefault.default.Goals as goal

pub returns : goal.returns
unfolding no_point
returns c = cc
