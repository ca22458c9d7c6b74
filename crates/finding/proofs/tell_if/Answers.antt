use Rattle.finding.specs.Rules.{when}
use Rattle.finding.specs.Told.{told}
use Rattle.finding.proofs.tell_if.Goals as goal

pub returns-then-not-broken : goal.returns-then-not-broken
unfolding told when
returns-then-not-broken c = rw c.if-not-broken.true

pub returns : goal.returns
unfolding told when
returns c =
    rw c.if-not-broken.false (λ i. (c.plus.ensures i, c.store.ensures i))
