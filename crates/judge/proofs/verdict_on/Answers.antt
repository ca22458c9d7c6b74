use mathlib.Core.Path.{sym, subst, ◌∙◌}
use native.Mathlib.Omega.{arith}
use lib.ListN.{length}
use Rattle.pairs.specs.Sound.{PlannedSound, bytes-told}
use Rattle.judge.specs.Laws.{goes}
use Rattle.judge.proofs.verdict_on.Goals as goal

-- where the run fits, its bytes are fewer than a number holds
pub overflow_mul-result : goal.overflow_mul-result
overflow_mul-result c =
    let a = c.args in
    let sound = subst (PlannedSound a.up) c.in_ok-plan.was c.requires in
    let g = goes a.up c.in_ok-plan.plan a.count a.src.now (sym c.judge.ensures ∙ c.in_ok-judge.was) in
    omega (arith, bytes-told a.up c.in_ok-plan.plan sound a.count (length a.src.now) g.there (omega (arith, c.well_formed.0.1)))
