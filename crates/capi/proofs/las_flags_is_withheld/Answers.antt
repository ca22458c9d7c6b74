use mathlib.Core.Path.{ap, ◌∙◌}
use Rattle.flags.specs.Readings.{withheld_of}
use Rattle.capi.proofs.las_flags_is_withheld.Goals as goal

pub returns : goal.returns
returns c = c.is_withheld.ensures ∙ ap withheld_of c.flags_of.ensures
