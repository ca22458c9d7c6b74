use borrow.Author.Tests.{lt-ltb, le-ltb}
use Rattle.point.specs.Read.{sized_of}
use Rattle.point.proofs.read_sized.Goals as goal

pub returns-then-s-n : goal.returns-then-s-n
unfolding sized_of
returns-then-s-n c = rw (lt-ltb _ _ c.if-s-n.true)

pub returns : goal.returns
unfolding sized_of
returns c = rw (c.read_whole.ensures, le-ltb _ _ c.if-s-n.false)
