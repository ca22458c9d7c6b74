use mathlib.Core.Path.{ap, ◌∙◌}
use mir.Syntax.{w16}
use mir.Val.{to_z}
use Rattle.le.proofs.Twos.{kept}
use Rattle.le.proofs.i16_at.Goals as goal

pub returns : goal.returns
returns c =
    kept w16 _ c.cast_signed.type_inv ∙ c.cast_signed.ensures ∙ ap (to_z w16) c.u16_at.ensures
