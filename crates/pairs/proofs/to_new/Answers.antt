use mathlib.Core.Path.{ap, ◌∙◌}
use Rattle.pairs.specs.Pairs.{planned_by}
use Rattle.pairs.proofs.to_new.Goals as goal

pub returns : goal.returns
returns c = c.plan_for.ensures ∙ ap (planned_by c.args.format) c.new_pair.ensures
