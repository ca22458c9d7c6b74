use mathlib.Core.Path.{sym, ap}
use Rattle.flags.specs.Readings.{edge_of}
use Rattle.flags.proofs.Flags.is_edge_of_flight_line.Goals as goal

pub returns-in-TwoByte : goal.returns-in-TwoByte
returns-in-TwoByte c = sym (ap edge_of c.in-TwoByte.is)

pub returns-in-ThreeByte : goal.returns-in-ThreeByte
returns-in-ThreeByte c = sym (ap edge_of c.in-ThreeByte.is)
