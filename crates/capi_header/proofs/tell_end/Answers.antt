use mathlib.Core.Path.{sym, ap, ◌∙◌}
use Rattle.capi_header.specs.Numbers.{end_by}
use Rattle.capi_header.proofs.tell_end.Goals as goal

pub returns-in-Ok : goal.returns-in-Ok
returns-in-Ok c = c.tell.ensures ∙ ap end_by (sym c.in-Ok.is ∙ c.offset_to_end_of_points.ensures)

pub returns-in-Err : goal.returns-in-Err
returns-in-Err c = c.refuse.ensures ∙ ap end_by (sym c.in-Err.is ∙ c.offset_to_end_of_points.ensures)
