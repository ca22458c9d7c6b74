use mathlib.Core.Path.{ap, ◌∙◌}
use Rattle.words.specs.Words.{format_word}
use Rattle.format.specs.Format.{extended_of}
use Rattle.capi.proofs.las_format_extend.Goals as goal

pub returns : goal.returns
returns c = c.format_word.ensures ∙ ap format_word (c.extend.ensures ∙ ap extended_of c.format_of.ensures)
