use mathlib.Core.Path.{ap, ◌∙◌}
use Rattle.flags.specs.Readings.{class_of}
use Rattle.capi.proofs.las_flags_class.Goals as goal

pub returns : goal.returns
returns c = c.class.ensures ∙ ap class_of c.flags_of.ensures
