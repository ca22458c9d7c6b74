use mathlib.Core.Path.{ap, ◌∙◌}
use Rattle.capi_layout.specs.Numbers.{layout_numbers}
use Rattle.capi_layout.proofs.las_layout.Goals as goal

pub returns : goal.returns
returns c = c.numbers_of.ensures ∙ ap layout_numbers c.format_of.ensures
