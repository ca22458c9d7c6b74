use mathlib.Core.Path.{sym, ap, ◌∙◌}
use Rattle.flags.specs.Bytes.{two_bytes_of}
use Rattle.flags.proofs.Flags.to_two_bytes.Goals as goal

pub returns-in-TwoByte : goal.returns-in-TwoByte
unfolding two_bytes_of
returns-in-TwoByte c = sym (ap two_bytes_of c.in-TwoByte.is)

pub returns-in-ThreeByte : goal.returns-in-ThreeByte
returns-in-ThreeByte c = c.two_bytes.ensures ∙ sym (ap two_bytes_of c.in-ThreeByte.is)
