use mathlib.Core.Path.{sym, ap, ◌∙◌}
use Rattle.capi_walker.specs.Rows.{start_row}
use Rattle.capi_walker.proofs.start_row.Goals as goal

pub returns-in-Ok : goal.returns-in-Ok
returns-in-Ok c = c.accepted.ensures ∙ sym (ap start_row c.in-Ok.is)

pub returns-in-Err : goal.returns-in-Err
returns-in-Err c = c.row.ensures ∙ sym (ap start_row c.in-Err.is)
