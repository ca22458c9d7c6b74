use mathlib.Core.Path.{ap, ◌∙◌}
use Rattle.flags.specs.Readings.{number_of_returns_of}
use Rattle.capi.proofs.las_flags_number_of_returns.Goals as goal

pub returns : goal.returns
returns c = c.number_of_returns.ensures ∙ ap number_of_returns_of c.flags_of.ensures
