use mathlib.Core.Path.{ap, ◌∙◌}
use Rattle.capi_column.specs.Rows.{told_of}
use Rattle.capi_column.proofs.las_column_time.Goals as goal

pub returns : goal.returns
returns c =
    let r = c.f64_column in
    (λ i. (c.tell.ensures i, r.new.dst)) ∙ ap told_of r.ensures
