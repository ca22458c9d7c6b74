use mathlib.Core.Path.{ap, ◌∙◌}
use mir.Syntax.{w32}
use mir.Val.{to_z}
use Rattle.le.proofs.Twos.{kept}
use Rattle.capi_sheet.specs.Numbers.{range_from}
use Rattle.capi_sheet.proofs.range_from.Goals as goal

pub returns : goal.returns
unfolding range_from
returns c =
    let min = kept w32 _ c.cast_signed.type_inv ∙ c.cast_signed.ensures ∙ ap (to_z w32) c.low32.ensures in
    let max = kept w32 _ c.cast_signed-2.type_inv ∙ c.cast_signed-2.ensures ∙ ap (to_z w32) c.low32-2.ensures in
    λ i. record { min = min i; max = max i }
