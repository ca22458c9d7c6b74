use Prim.Native.Nat.{ℕ}
use mathlib.Core.Path.{ap, ◌∙◌}
use mathlib.Core.Bool.{true}
use lib.ListN.{get_or}
use Rattle.finding.specs.Rules.{unlike, large_at, larges}
use Rattle.finding.specs.Told.{telling, told-when, told-next, told_last}
use Rattle.finding.proofs.tell_larges.Goals as goal

pub loop-i-init : goal.loop-i-init
loop-i-init c = telling _ 1 15 _ _

pub loop-i-preserved : goal.loop-i-preserved
unfolding large_at
loop-i-preserved c =
    let numbers = c.args.numbers.now in
    told-next _ 1 15 _ _ c.loop-i.invariant c.loop-i-test.true
    (c.tell_if-n.ensures ∙ told-when _ (c.unlike-other.ensures ∙ ap (λ (k : ℕ). unlike true k (get_or numbers c.loop-i.i 0)) c.u64_at.ensures) c.spot.ensures)

pub returns : goal.returns
unfolding larges
returns c = told_last _ 1 15 _ _ c.loop-i.invariant c.loop-i-test.false

pub shape_of-out : goal.shape_of-out
shape_of-out c = c.loop-i.invariant.kept
