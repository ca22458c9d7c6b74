use mathlib.Core.Path.{ap, ◌∙◌}
use Rattle.capi_convert.specs.Rows.{told_of}
use Rattle.capi_migrate.proofs.las_file_to_old.Goals as goal

pub returns : goal.returns
returns c =
    let r = c.to_old in
    (λ i. (c.tell.ensures i, r.new.dst)) ∙ ap told_of r.ensures
