use mathlib.Core.Path.{sym, ap, ◌∙◌}
use Rattle.capi_header.specs.Numbers.{size_row}
use Rattle.capi_header.proofs.las_header_size.Goals as goal

pub returns-in-Ok : goal.returns-in-Ok
returns-in-Ok c = c.tell.ensures ∙ ap size_row (sym c.in-Ok.is ∙ c.header_size.ensures)

pub returns-in-Err : goal.returns-in-Err
returns-in-Err c = c.refuse.ensures ∙ ap size_row (sym c.in-Err.is ∙ c.header_size.ensures)
