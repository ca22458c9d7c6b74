use mathlib.Core.Path.{ap, ◌∙◌}
use Rattle.capi_ask.specs.Rows.{asked_row}
use Rattle.capi_ask.proofs.las_convert_ask_old.Goals as goal

pub returns : goal.returns
returns c = c.tell.ensures ∙ ap asked_row c.ask_old.ensures
