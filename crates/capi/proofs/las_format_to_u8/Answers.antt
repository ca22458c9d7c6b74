use mathlib.Core.Path.{sym, ap, ◌∙◌}
use Rattle.format.specs.Codes.{code_of}
use Rattle.capi.specs.Rows.{code_row}
use Rattle.capi.proofs.las_format_to_u8.Goals as goal

-- The answer that the match found is the one that the call gave.
pub returns-in-Ok : goal.returns-in-Ok
returns-in-Ok c = c.tell.ensures ∙ ap code_row (sym c.in-Ok.is ∙ c.to_u8.ensures ∙ ap code_of c.format_of.ensures)

pub returns-in-Err : goal.returns-in-Err
returns-in-Err c = c.refuse.ensures ∙ ap code_row (sym c.in-Err.is ∙ c.to_u8.ensures ∙ ap code_of c.format_of.ensures)
