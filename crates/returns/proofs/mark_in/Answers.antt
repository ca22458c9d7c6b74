use Rattle.returns.specs.Returns.{mark_of}
use Rattle.returns.proofs.mark_in.Goals as goal

pub returns-then-extended : goal.returns-then-extended
unfolding mark_of
returns-then-extended c = rw (c.u8_at-byte.ensures, c.if-extended.true)

pub returns : goal.returns
unfolding mark_of
returns c = rw (c.u8_at-byte.ensures, c.if-extended.false)
