use mathlib.Core.Path.{sym, ap, ◌∙◌}
use Rattle.capi_ask.specs.Rows.{asked_row}
use Rattle.capi_ask.proofs.tell.Goals as goal

pub returns-in-Ok : goal.returns-in-Ok
returns-in-Ok c = c.tell.ensures ∙ ap asked_row (sym c.in-Ok.is)

pub returns-in-Err : goal.returns-in-Err
returns-in-Err c = c.refuse.ensures ∙ ap asked_row (sym c.in-Err.is)
