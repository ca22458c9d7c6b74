use mathlib.Core.Path.{ap, ◌∙◌}
use Rattle.flags.specs.Readings.{overlap_of}
use Rattle.capi.proofs.las_flags_is_overlap.Goals as goal

pub returns : goal.returns
returns c = c.is_overlap.ensures ∙ ap overlap_of c.flags_of.ensures
