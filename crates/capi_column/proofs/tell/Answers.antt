use mathlib.Core.Path.{sym, ap, ◌∙◌}
use Rattle.capi_column.specs.Rows.{filled_row}
use Rattle.capi_column.proofs.tell.Goals as goal

pub returns-in-Err : goal.returns-in-Err
returns-in-Err c = c.refuse.ensures ∙ ap filled_row (sym c.in-Err.is)
