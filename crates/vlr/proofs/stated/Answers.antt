use Rattle.std.specs.Prelude.{Ok}
use mathlib.Core.Path.{ap}
use borrow.Author.Tests.{lt-ltb, le-ltb}
use Rattle.vlr.specs.Vlr.{stated_of}
use Rattle.vlr.proofs.stated.Goals as goal

pub returns-then-s-head : goal.returns-then-s-head
unfolding stated_of
returns-then-s-head c = rw (← c.head_size-head.ensures, lt-ltb _ _ c.if-s-head.true)

pub returns : goal.returns
unfolding stated_of
returns c = rw (← c.head_size-head.ensures, le-ltb _ _ c.if-s-head.false) (ap Ok c.length_field.ensures)
