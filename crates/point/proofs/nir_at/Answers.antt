use Rattle.point.specs.Read.{nir_at}
use Rattle.point.proofs.nir_at.Goals as goal

pub returns-then-has : goal.returns-then-has
unfolding nir_at
returns-then-has c = rw (c.u16_at.ensures, c.if-has.true)

pub returns : goal.returns
unfolding nir_at
returns c = rw c.if-has.false
