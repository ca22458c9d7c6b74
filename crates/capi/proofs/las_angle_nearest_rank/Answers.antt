use mathlib.Core.Path.{ap, ◌∙◌}
use mir.Syntax.{w16}
use Rattle.le.proofs.Twos.{kept}
use Rattle.angle.specs.Angle.{nearest_rank}
use Rattle.capi.proofs.las_angle_nearest_rank.Goals as goal

pub returns : goal.returns
returns c =
    kept w16 _ c.nearest_rank.type_inv ∙ c.nearest_rank.ensures ∙ ap nearest_rank (kept w16 c.args.scaled c.ranges.scaled.sfits)
