use mathlib.Core.Path.{sym, ap}
use Rattle.flags.specs.Readings.{withheld_of}
use Rattle.flags.proofs.Flags.is_withheld.Goals as goal

pub returns-in-TwoByte : goal.returns-in-TwoByte
returns-in-TwoByte c = sym (ap withheld_of c.in-TwoByte.is)

pub returns-in-ThreeByte : goal.returns-in-ThreeByte
returns-in-ThreeByte c = sym (ap withheld_of c.in-ThreeByte.is)
