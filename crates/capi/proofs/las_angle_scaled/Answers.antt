use Prim.Native.Nat.{◌+◌}
use mathlib.Core.Path.{ap, ◌∙◌}
use lib.IntN.{ℤ}
use mir.Syntax.{w16}
use mir.Val.{of_z}
use Rattle.le.proofs.Twos.{kept}
use Rattle.capi.proofs.las_angle_scaled.Goals as goal

pub returns : goal.returns
returns c = c.angle_word.ensures ∙ ap (λ (z : ℤ). of_z w16 z + 65536) (kept w16 c.args.scaled c.ranges.scaled.sfits)
