use native.Mathlib.Omega.{arith}
use Rattle.point.specs.Read.{flags_at}
use Rattle.sheet_count.proofs.return_in.Goals as goal

pub returns-then-extended : goal.returns-then-extended
unfolding flags_at
returns-then-extended c = (rw (c.if-extended.true, c.u8_at.ensures), omega arith)

pub returns : goal.returns
unfolding flags_at
returns c = (rw (c.if-extended.false, c.u8_at-2.ensures), omega arith)
