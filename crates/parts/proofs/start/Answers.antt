use Rattle.std.proofs.Common.{ap, Err}
use borrow.Author.Tests.{le-ltb, lt-ltb}
use Rattle.std.proofs.lemmas.Result.{err_from_is_err_and}
use Rattle.parts.specs.Table.{roomy_of}
use Rattle.parts.proofs.start.Goals as goal

pub returns-in_err-c : goal.returns-in_err-c
unfolding roomy_of
returns-in_err-c c =
    let p = err_from_is_err_and c.from_residual.result c.from_residual.ensures.1 in
    rw (p.1, p.2, ← c.start.ensures, c.in_err-c.was)

pub returns-then-room-wanted : goal.returns-then-room-wanted
unfolding roomy_of
returns-then-room-wanted c = rw (← c.start.ensures, c.in_ok-c.was, ← c.count-wanted.ensures, lt-ltb _ _ c.if-room-wanted.true) (ap Err c.into.ensures)

pub returns : goal.returns
unfolding roomy_of
returns c = rw (← c.start.ensures, c.in_ok-c.was, ← c.count-wanted.ensures, le-ltb _ _ c.if-room-wanted.false)
