use mathlib.Core.Path.{◌∙◌}
use Rattle.finding.specs.Rules.{text_at}
use Rattle.finding.specs.Told.{told-when}
use Rattle.finding.proofs.tell_text.Goals as goal

pub returns : goal.returns
unfolding text_at
returns c =
    c.tell_if.ensures ∙ told-when _ c.has_rest.ensures c.spot.ensures
