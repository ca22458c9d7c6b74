use mathlib.Core.Path.{◌∙◌}
use mir.Syntax.{w32}
use Rattle.le.proofs.Twos.{kept}
use Rattle.sheet_count.specs.Count.{only, extent_in}
use Rattle.sheet_count.proofs.extent_in.Goals as goal

pub returns : goal.returns
unfolding extent_in
returns c =
    let x = kept w32 _ c.i32_at-x.type_inv ∙ c.i32_at-x.ensures in
    let y = kept w32 _ c.i32_at-y.type_inv ∙ c.i32_at-y.ensures in
    let z = kept w32 _ c.i32_at-z.type_inv ∙ c.i32_at-z.ensures in
    λ i. record { x = only (x i); y = only (y i); z = only (z i) }
