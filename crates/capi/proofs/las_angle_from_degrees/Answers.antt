use mathlib.Core.Path.{ap, ◌∙◌}
use Rattle.words.specs.Words.{angle_word}
use Rattle.capi.proofs.las_angle_from_degrees.Goals as goal

pub returns : goal.returns
returns c = c.angle_word.ensures ∙ ap angle_word c.from_degrees.ensures
