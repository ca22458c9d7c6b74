use mathlib.Core.Path.{sym, ap}
use Rattle.flags.specs.Readings.{channel_of}
use Rattle.flags.proofs.Flags.scanner_channel.Goals as goal

pub returns-in-ThreeByte : goal.returns-in-ThreeByte
returns-in-ThreeByte c = sym (ap channel_of c.in-ThreeByte.is)
