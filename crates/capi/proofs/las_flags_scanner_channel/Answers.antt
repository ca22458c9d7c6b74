use mathlib.Core.Path.{ap, ◌∙◌}
use Rattle.flags.specs.Readings.{channel_of}
use Rattle.capi.proofs.las_flags_scanner_channel.Goals as goal

pub returns : goal.returns
returns c = c.scanner_channel.ensures ∙ ap channel_of c.flags_of.ensures
