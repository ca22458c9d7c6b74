use mathlib.Core.Path.{sym, ap, ◌∙◌}
use Rattle.words.specs.Words.{flags_word}
use Rattle.words.proofs.flags_word.Goals as goal

pub returns-in-TwoByte : goal.returns-in-TwoByte
returns-in-TwoByte c = c.packed.ensures ∙ sym (ap flags_word c.in-TwoByte.is)

pub returns-in-ThreeByte : goal.returns-in-ThreeByte
returns-in-ThreeByte c = c.packed-in-ThreeByte.ensures ∙ sym (ap flags_word c.in-ThreeByte.is)
