use mathlib.Core.Path.{ap, ◌∙◌}
use Rattle.flags.specs.Readings.{return_number_of}
use Rattle.capi.proofs.las_flags_return_number.Goals as goal

pub returns : goal.returns
returns c = c.return_number.ensures ∙ ap return_number_of c.flags_of.ensures
