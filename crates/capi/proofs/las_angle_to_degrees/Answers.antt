use mathlib.Core.Path.{ap, ◌∙◌}
use Rattle.angle.specs.Angle.{to_degrees}
use Rattle.capi.proofs.las_angle_to_degrees.Goals as goal

pub returns : goal.returns
returns c = c.to_degrees.ensures ∙ ap to_degrees c.angle_of.ensures
