use mathlib.Core.Path.{ap, ◌∙◌}
use Rattle.capi_column.specs.Rows.{told_of}
use Rattle.capi_column.proofs.las_columns_xyz.Goals as goal

pub returns : goal.returns
returns c =
    let r = c.xyz_columns in
    (λ i. (c.tell.ensures i, (r.new.xs, r.new.ys, r.new.zs))) ∙ ap told_of r.ensures
