use mathlib.Core.Path.{sym, ap, ◌∙◌}
use Rattle.flags.specs.Readings.{direction_of}
use Rattle.flags.proofs.Flags.scan_direction.Goals as goal

pub returns-in-TwoByte : goal.returns-in-TwoByte
returns-in-TwoByte c = c.direction.ensures ∙ sym (ap direction_of c.in-TwoByte.is)

pub returns-in-ThreeByte : goal.returns-in-ThreeByte
returns-in-ThreeByte c = c.direction-in-ThreeByte.ensures ∙ sym (ap direction_of c.in-ThreeByte.is)
