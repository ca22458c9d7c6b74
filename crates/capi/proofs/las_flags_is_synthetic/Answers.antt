use mathlib.Core.Path.{ap, ◌∙◌}
use Rattle.flags.specs.Readings.{synthetic_of}
use Rattle.capi.proofs.las_flags_is_synthetic.Goals as goal

pub returns : goal.returns
returns c = c.is_synthetic.ensures ∙ ap synthetic_of c.flags_of.ensures
