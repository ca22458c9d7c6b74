use mathlib.Core.Path.{sym, ap}
use Rattle.flags.specs.Readings.{return_number_of}
use Rattle.flags.proofs.Flags.return_number.Goals as goal

pub returns-in-TwoByte : goal.returns-in-TwoByte
returns-in-TwoByte c = sym (ap return_number_of c.in-TwoByte.is)

pub returns-in-ThreeByte : goal.returns-in-ThreeByte
returns-in-ThreeByte c = sym (ap return_number_of c.in-ThreeByte.is)
