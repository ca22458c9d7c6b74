use mathlib.Core.Path.{ap, ◌∙◌}
use mir.Syntax.{w32}
use mir.Val.{to_z}
use Rattle.le.proofs.Twos.{kept}
use Rattle.le.proofs.i32_at.Goals as goal

pub returns : goal.returns
returns c =
    kept w32 _ c.cast_signed.type_inv ∙ c.cast_signed.ensures ∙ ap (to_z w32) c.u32_at.ensures
