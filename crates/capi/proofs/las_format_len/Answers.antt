use mathlib.Core.Path.{sym, ap, ◌∙◌}
use Rattle.format.specs.Fields.{len_of}
use Rattle.capi.specs.Rows.{len_row}
use Rattle.capi.proofs.las_format_len.Goals as goal

-- The answer that the match found is the one that the call gave.
pub returns-in-Ok : goal.returns-in-Ok
returns-in-Ok c = c.tell.ensures ∙ ap len_row (sym c.in-Ok.is ∙ c.len.ensures ∙ ap len_of c.format_of.ensures)

pub returns-in-Err : goal.returns-in-Err
returns-in-Err c = c.refuse.ensures ∙ ap len_row (sym c.in-Err.is ∙ c.len.ensures ∙ ap len_of c.format_of.ensures)
