use mathlib.Core.Path.{ap, ◌∙◌}
use Rattle.capi_vlr.specs.Rows.{lent_of}
use Rattle.capi_vlr.proofs.las_vlr_default.Goals as goal

pub returns : goal.returns
returns c =
    let d = c.default-vlr in
    (λ i. (c.numbers_of.ensures i, d.result.user_id, d.result.description)) ∙ ap lent_of d.ensures
