use Rattle.std.specs.Prelude.{Ok}
use Prim.Native.Nat.{◌+◌}
use mathlib.Core.Path.{◌≡◌, ap, sym, ◌∙◌}
use mathlib.Core.Bool.{true}
use native.Mathlib.Omega.{arith}
use borrow.Author.Tests.{le-leb, lt-leb}
use lib.ListN.{length}
use Rattle.offer.specs.declared.Sweep.{Sweep}
use Rattle.offer.specs.declared.Offer.TheVariants.{Add}
use Rattle.offer.specs.Offer.{counts_fit, growing}
use Rattle.offer.specs.Laws.{CountsFit, counts-fit}
use Rattle.offer.specs.Steps.{sweep_by}
use Rattle.offer.proofs.grow.Goals as goal
use Rattle.offer.proofs.grow.Goals.{After-all_fit, Else-not-all_fit, Start}

abbrev sweep : Start → Sweep
sweep s = sweep_by s.args.at s.args.bytes s.args.points s.args.by_return

-- the counts are tested whatever the place is
tested : (x : After-all_fit) → counts_fit (sweep (goal.at.After-all_fit x).Start) ≡ x.all_fit.result
unfolding counts_fit
tested x = sym x.all_fit.ensures

fit : (c : Else-not-all_fit) → counts_fit (sweep (goal.at.Else-not-all_fit c).Start) ≡ true
fit c = tested (goal.at.Else-not-all_fit c).After-all_fit ∙ c.if-not-all_fit.false

-- so the points are few enough that the end is no sum that wraps
few : (c : Else-not-all_fit) → CountsFit (sweep (goal.at.Else-not-all_fit c).Start)
few c = counts-fit (sweep (goal.at.Else-not-all_fit c).Start) (fit c)

pub returns-then-not-all_fit : goal.returns-then-not-all_fit
unfolding growing
returns-then-not-all_fit c = rw (tested (goal.at.returns-then-not-all_fit c).After-all_fit, c.if-not-all_fit.true) c.refused.ensures

pub overflow_add-end : goal.overflow_add-end
overflow_add-end c = omega (arith, (few c).points, c.requires)

pub returns-then-file-end : goal.returns-then-file-end
unfolding growing
returns-then-file-end c =
    let a = c.args in
    rw (fit (goal.at.returns-then-file-end c).Else-not-all_fit, lt-leb (a.at + a.bytes) (length a.file.now) (omega arith)) c.refused-then-file-end.ensures

pub returns : goal.returns
unfolding growing
returns c =
    let a = c.args in
    rw (fit (goal.at.returns c).Else-not-all_fit, le-leb (a.at + a.bytes) (length a.file.now) (omega arith)) (ap (λ (w : Sweep). Ok (Add w)) c.sweep_of.ensures)

pub sweep_of-requires : goal.sweep_of-requires
sweep_of-requires c = few (goal.at.sweep_of-requires c).Else-not-all_fit
