use mathlib.Core.Path.{sym, ap}
use Rattle.flags.specs.Readings.{key_point_of}
use Rattle.flags.proofs.Flags.is_key_point.Goals as goal

pub returns-in-TwoByte : goal.returns-in-TwoByte
returns-in-TwoByte c = sym (ap key_point_of c.in-TwoByte.is)

pub returns-in-ThreeByte : goal.returns-in-ThreeByte
returns-in-ThreeByte c = sym (ap key_point_of c.in-ThreeByte.is)
