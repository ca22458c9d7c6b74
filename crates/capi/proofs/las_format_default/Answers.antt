use mathlib.Core.Path.{ap, ◌∙◌}
use Rattle.words.specs.Words.{format_word}
use Rattle.capi.proofs.las_format_default.Goals as goal

pub returns : goal.returns
returns c = c.format_word.ensures ∙ ap format_word c.default.ensures
