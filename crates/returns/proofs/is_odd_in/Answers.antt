use mathlib.Core.Path.{ap, ◌∙◌}
use Rattle.returns.specs.Returns.{is_odd, odd_in}
use Rattle.returns.proofs.is_odd_in.Goals as goal

pub returns : goal.returns
unfolding odd_in
returns c = c.is_odd.ensures ∙ ap is_odd c.mark_in.ensures
