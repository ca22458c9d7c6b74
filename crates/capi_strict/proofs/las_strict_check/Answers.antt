use mathlib.Core.Path.{sym, ap, ◌∙◌}
use Rattle.strict.specs.Fit.{fit_of}
use Rattle.capi_strict.specs.Rows.{fit_row}
use Rattle.capi_strict.proofs.las_strict_check.Goals as goal

pub returns-in-Ok : goal.returns-in-Ok
returns-in-Ok c =
    c.tell.ensures
    ∙ ap fit_row (sym c.in-Ok.is ∙ c.check.ensures ∙ ap fit_of c.point_from.ensures)

pub returns-in-Err : goal.returns-in-Err
returns-in-Err c =
    c.refuse.ensures
    ∙ ap fit_row (sym c.in-Err.is ∙ c.check.ensures ∙ ap fit_of c.point_from.ensures)
