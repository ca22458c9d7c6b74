use mathlib.Core.Path.{sym, ap}
use Rattle.flags.specs.Readings.{overlap_of}
use Rattle.flags.proofs.Flags.is_overlap.Goals as goal

pub returns-in-TwoByte : goal.returns-in-TwoByte
returns-in-TwoByte c = sym (ap overlap_of c.in-TwoByte.is)

pub returns-in-ThreeByte : goal.returns-in-ThreeByte
returns-in-ThreeByte c = sym (ap overlap_of c.in-ThreeByte.is)
