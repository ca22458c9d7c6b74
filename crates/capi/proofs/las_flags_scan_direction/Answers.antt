use mathlib.Core.Path.{sym, ap, ◌∙◌}
use Rattle.flags.specs.Readings.{direction_of}
use Rattle.words.specs.Words.{direction_word}
use Rattle.capi.proofs.las_flags_scan_direction.Goals as goal

-- The answer that the match found is the one that the call gave.
pub returns-in-RightToLeft : goal.returns-in-RightToLeft
returns-in-RightToLeft c = ap direction_word (sym c.in-RightToLeft.is ∙ c.scan_direction.ensures ∙ ap direction_of c.flags_of.ensures)

pub returns-in-LeftToRight : goal.returns-in-LeftToRight
returns-in-LeftToRight c = ap direction_word (sym c.in-LeftToRight.is ∙ c.scan_direction.ensures ∙ ap direction_of c.flags_of.ensures)
