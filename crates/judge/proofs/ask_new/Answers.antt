use mathlib.Core.Path.{ap, sym, subst, ◌∙◌}
use mathlib.Core.Bool.{true}
use Rattle.pairs.specs.Sound.{PlannedSound, new_planned}
use Rattle.judge.specs.Judge.{verdict_by, new_verdict}
use Rattle.judge.proofs.ask_new.Goals as goal

-- what is planned is sound
pub verdict_on-requires : goal.verdict_on-requires
verdict_on-requires c =
    let a = c.args in
    subst (PlannedSound true) (sym c.to_new.ensures) (new_planned a.format a.extra)

pub returns : goal.returns
unfolding new_verdict
returns c =
    let a = c.args in
    c.verdict_on.ensures ∙ ap (verdict_by true a.count a.src.now) c.to_new.ensures
