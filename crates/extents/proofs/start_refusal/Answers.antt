use Rattle.extents.specs.Extents.{start_refusal}
use Rattle.extents.proofs.start_refusal.Goals as goal

pub returns-then-o : goal.returns-then-o
unfolding start_refusal
returns-then-o c = rw c.if-o.true

pub returns : goal.returns
unfolding start_refusal
returns c = rw c.if-o.false
