use mathlib.Core.Path.{ap, ◌∙◌}
use mir.Syntax.{w32}
use mir.Val.{of_z}
use Rattle.le.proofs.Twos.{kept}
use Rattle.capi_sheet.proofs.bits.Goals as goal

pub returns : goal.returns
returns c = c.cast_unsigned.ensures ∙ ap (of_z w32) (kept w32 c.args.z c.ranges.z.sfits)
