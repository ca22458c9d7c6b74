use mathlib.Core.Path.{sym, ap, ◌∙◌}
use Rattle.flags.specs.Bytes.{cleared_of}
use Rattle.flags.proofs.Flags.clear_overlap_class.Goals as goal

pub returns-in-TwoByte : goal.returns-in-TwoByte
returns-in-TwoByte c = c.cleared_two.ensures ∙ sym (ap cleared_of c.in-TwoByte.is)

pub returns-in-ThreeByte : goal.returns-in-ThreeByte
returns-in-ThreeByte c = c.cleared_three.ensures ∙ sym (ap cleared_of c.in-ThreeByte.is)
