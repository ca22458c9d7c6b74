use mathlib.Core.Path.{sym, ap, ◌∙◌}
use Rattle.capi_header.specs.Numbers.{end_row}
use Rattle.capi_header.proofs.las_header_end_of_points.Goals as goal

pub returns-in-Ok : goal.returns-in-Ok
returns-in-Ok c = c.tell_end.ensures ∙ ap end_row (sym c.in-Ok.is ∙ c.read_from.ensures)

pub returns-in-Err : goal.returns-in-Err
returns-in-Err c = c.refuse.ensures ∙ ap end_row (sym c.in-Err.is ∙ c.read_from.ensures)
