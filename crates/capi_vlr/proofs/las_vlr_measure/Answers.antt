use mathlib.Core.Path.{sym, ap, ◌∙◌}
use Rattle.capi_vlr.specs.Rows.{extent_row}
use Rattle.capi_vlr.proofs.las_vlr_measure.Goals as goal

pub returns-in-Ok : goal.returns-in-Ok
returns-in-Ok c =
    c.tell.ensures ∙ ap extent_row (sym c.in-Ok.is ∙ c.measure.ensures)

pub returns-in-Err : goal.returns-in-Err
returns-in-Err c =
    c.refuse.ensures ∙ ap extent_row (sym c.in-Err.is ∙ c.measure.ensures)
