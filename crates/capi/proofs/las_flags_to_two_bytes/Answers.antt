use mathlib.Core.Path.{sym, ap, ◌∙◌}
use Rattle.flags.specs.Bytes.{two_bytes_of}
use Rattle.capi.specs.Rows.{two_row}
use Rattle.capi.proofs.las_flags_to_two_bytes.Goals as goal

-- The answer that the match found is the one that the call gave.
pub returns-in-Ok : goal.returns-in-Ok
returns-in-Ok c = c.tell.ensures ∙ ap two_row (sym c.in-Ok.is ∙ c.to_two_bytes.ensures ∙ ap two_bytes_of c.flags_of.ensures)

pub returns-in-Err : goal.returns-in-Err
returns-in-Err c = c.refuse.ensures ∙ ap two_row (sym c.in-Err.is ∙ c.to_two_bytes.ensures ∙ ap two_bytes_of c.flags_of.ensures)
