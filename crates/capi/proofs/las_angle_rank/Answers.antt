use mathlib.Core.Path.{ap, ◌∙◌}
use mir.Syntax.{w8}
use mir.Val.{of_z}
use Rattle.le.proofs.Twos.{kept}
use Rattle.capi.proofs.las_angle_rank.Goals as goal

pub returns : goal.returns
returns c = c.angle_word.ensures ∙ ap (of_z w8) (kept w8 c.args.rank c.ranges.rank.sfits)
