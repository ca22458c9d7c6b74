use borrow.Author.Tests.{eq-eqb, ne_eqb}
use Rattle.keys.specs.Keys.{base_of}
use Rattle.keys.proofs.base.Goals as goal

pub returns-then-location-eq34736 : goal.returns-then-location-eq34736
unfolding base_of
returns-then-location-eq34736 c = rw (eq-eqb _ _ c.if-location-eq34736.true)

pub returns : goal.returns
unfolding base_of
returns c = rw (ne_eqb _ _ c.if-location-eq34736.false)
