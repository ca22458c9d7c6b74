use mathlib.Core.Path.{sym, ap}
use Rattle.flags.specs.Readings.{synthetic_of}
use Rattle.flags.proofs.Flags.is_synthetic.Goals as goal

pub returns-in-TwoByte : goal.returns-in-TwoByte
returns-in-TwoByte c = sym (ap synthetic_of c.in-TwoByte.is)

pub returns-in-ThreeByte : goal.returns-in-ThreeByte
returns-in-ThreeByte c = sym (ap synthetic_of c.in-ThreeByte.is)
