use mathlib.Core.Path.{ap, ◌∙◌}
use mir.Syntax.{w16}
use Rattle.le.proofs.Twos.{kept}
use Rattle.angle.specs.Angle.{to_scaled}
use Rattle.capi.proofs.las_angle_to_scaled.Goals as goal

pub returns : goal.returns
returns c = kept w16 _ c.to_scaled.type_inv ∙ c.to_scaled.ensures ∙ ap to_scaled c.angle_of.ensures
