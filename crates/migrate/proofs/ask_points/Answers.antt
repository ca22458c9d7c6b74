use mathlib.Core.Path.{◌∙◌}
use Rattle.migrate.specs.Told.{run-asked}
use Rattle.migrate.proofs.ask_points.Goals as goal

pub returns-then-up : goal.returns-then-up
returns-then-up c =
    let a = c.args in
    c.ask_new.ensures ∙ run-asked a.o a.file.now _ _ c.point_format-format.ensures c.end_of.ensures a.up c.if-up.true

pub returns-else-up : goal.returns-else-up
returns-else-up c =
    let a = c.args in
    c.ask_old.ensures ∙ run-asked a.o a.file.now _ _ c.point_format-format.ensures c.end_of.ensures a.up c.if-up.false
