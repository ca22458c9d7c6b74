use mathlib.Core.Path.{ap, ◌∙◌}
use Rattle.flags.specs.Readings.{key_point_of}
use Rattle.capi.proofs.las_flags_is_key_point.Goals as goal

pub returns : goal.returns
returns c = c.is_key_point.ensures ∙ ap key_point_of c.flags_of.ensures
