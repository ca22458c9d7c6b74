use mathlib.Core.Path.{ap, ◌∙◌}
use Rattle.words.specs.Words.{flags_word}
use Rattle.flags.specs.Bytes.{cleared_of}
use Rattle.capi.proofs.las_flags_clear_overlap_class.Goals as goal

pub returns : goal.returns
returns c = c.flags_word.ensures ∙ ap flags_word (c.clear_overlap_class.ensures ∙ ap cleared_of c.flags_of.ensures)
