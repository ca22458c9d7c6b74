use mathlib.Core.Path.{ap, ◌∙◌}
use mir.Syntax.{w16}
use Rattle.angle.specs.Angle.{step, from_degrees}
use Rattle.angle.specs.declared.ScanAngle.TheVariants.{Scaled}
use Rattle.le.proofs.Twos.{kept}
use Rattle.angle.proofs.ScanAngle.from_degrees.Goals as goal

-- The machine reads the whole part back from its bits.
pub returns : goal.returns
unfolding from_degrees step
returns c = ap Scaled (kept w16 c.whole16.result c.whole16.type_inv ∙ c.whole16.ensures)
