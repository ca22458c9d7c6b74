use mathlib.Core.Path.{ap, ◌∙◌}
use mir.Syntax.{w8}
use mir.Val.{to_z}
use Rattle.le.proofs.Twos.{kept}
use Rattle.le.proofs.i8_at.Goals as goal

pub returns : goal.returns
returns c =
    kept w8 _ c.cast_signed.type_inv ∙ c.cast_signed.ensures ∙ ap (to_z w8) c.u8_at.ensures
