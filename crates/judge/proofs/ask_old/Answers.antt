use mathlib.Core.Path.{ap, sym, subst, ◌∙◌}
use mathlib.Core.Bool.{false}
use Rattle.pairs.specs.Sound.{PlannedSound, old_planned}
use Rattle.judge.specs.Judge.{verdict_by, old_verdict}
use Rattle.judge.proofs.ask_old.Goals as goal

-- what is planned is sound
pub verdict_on-requires : goal.verdict_on-requires
verdict_on-requires c =
    let a = c.args in
    subst (PlannedSound false) (sym c.to_old.ensures) (old_planned a.format a.extra)

pub returns : goal.returns
unfolding old_verdict
returns c =
    let a = c.args in
    c.verdict_on.ensures ∙ ap (verdict_by false a.count a.src.now) c.to_old.ensures
