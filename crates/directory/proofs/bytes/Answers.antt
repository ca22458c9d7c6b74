use borrow.Author.Tests.{eq-eqb, ne_eqb}
use Rattle.directory.proofs.bytes.Goals as goal

pub returns-then-location-eq34736 : goal.returns-then-location-eq34736
returns-then-location-eq34736 c = rw (eq-eqb _ _ c.if-location-eq34736.true)

pub returns : goal.returns
returns c = rw (ne_eqb _ _ c.if-location-eq34736.false)
