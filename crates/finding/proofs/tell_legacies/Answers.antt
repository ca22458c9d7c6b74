use Rattle.finding.specs.Rules.{legacies}
use Rattle.finding.specs.Told.{telling, told-next, told_last}
use Rattle.finding.proofs.tell_legacies.Goals as goal

pub loop-i-init : goal.loop-i-init
loop-i-init c = telling _ 1 5 _ _

pub loop-i-preserved : goal.loop-i-preserved
loop-i-preserved c =
    told-next _ 1 5 _ _ c.loop-i.invariant c.loop-i-test.true c.tell_legacy_at-n.ensures

pub returns : goal.returns
unfolding legacies
returns c = told_last _ 1 5 _ _ c.loop-i.invariant c.loop-i-test.false

pub shape_of-out : goal.shape_of-out
shape_of-out c = c.loop-i.invariant.kept
