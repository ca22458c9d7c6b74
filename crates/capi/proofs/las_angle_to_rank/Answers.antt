use mathlib.Core.Path.{ap, ◌∙◌}
use mir.Syntax.{w8}
use Rattle.le.proofs.Twos.{kept}
use Rattle.angle.specs.Angle.{to_rank}
use Rattle.capi.proofs.las_angle_to_rank.Goals as goal

pub returns : goal.returns
returns c = kept w8 _ c.to_rank.type_inv ∙ c.to_rank.ensures ∙ ap to_rank c.angle_of.ensures
