use Rattle.point.specs.Read.{flags_at}
use Rattle.point.proofs.flags_at.Goals as goal

pub returns-then-is_extended : goal.returns-then-is_extended
unfolding flags_at
returns-then-is_extended c = rw (c.u8_at.ensures, c.u8_at-b.ensures, c.u8_at-a.ensures, c.if-is_extended.true)

pub returns : goal.returns
unfolding flags_at
returns c = rw (c.u8_at-b.ensures, c.u8_at-a.ensures, c.if-is_extended.false)
