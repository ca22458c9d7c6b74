use mathlib.Core.Path.{◌∙◌}
use Rattle.migrate.specs.Told.{run_converted}
use Rattle.migrate.proofs.convert_points.Goals as goal

pub returns-then-up : goal.returns-then-up
returns-then-up c =
    let a = c.args in
    c.to_new.ensures ∙ run_converted a.o a.file.now _ _ c.point_format-format.ensures c.end_of.ensures a.up a.dst.now c.if-up.true

pub returns-else-up : goal.returns-else-up
returns-else-up c =
    let a = c.args in
    c.to_old.ensures ∙ run_converted a.o a.file.now _ _ c.point_format-format.ensures c.end_of.ensures a.up a.dst.now c.if-up.false
