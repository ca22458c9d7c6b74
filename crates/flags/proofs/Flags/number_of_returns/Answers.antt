use mathlib.Core.Path.{sym, ap}
use Rattle.flags.specs.Readings.{number_of_returns_of}
use Rattle.flags.proofs.Flags.number_of_returns.Goals as goal

pub returns-in-TwoByte : goal.returns-in-TwoByte
returns-in-TwoByte c = sym (ap number_of_returns_of c.in-TwoByte.is)

pub returns-in-ThreeByte : goal.returns-in-ThreeByte
returns-in-ThreeByte c = sym (ap number_of_returns_of c.in-ThreeByte.is)
