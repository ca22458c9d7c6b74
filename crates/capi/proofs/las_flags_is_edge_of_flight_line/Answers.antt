use mathlib.Core.Path.{ap, ◌∙◌}
use Rattle.flags.specs.Readings.{edge_of}
use Rattle.capi.proofs.las_flags_is_edge_of_flight_line.Goals as goal

pub returns : goal.returns
returns c = c.is_edge_of_flight_line.ensures ∙ ap edge_of c.flags_of.ensures
