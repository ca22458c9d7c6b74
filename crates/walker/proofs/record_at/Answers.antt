use mathlib.Core.Path.{sym, ◌∙◌}
use borrow.Author.Tests.{le-ltb, lt-ltb, le-leb, lt-leb}
use native.Mathlib.Omega.{arith}
use Rattle.format.specs.Length.{len_is, len-le, len_over}
use Rattle.walker.specs.Walk.{whole_at, has_next, record_of}
use Rattle.walker.proofs.record_at.Goals as goal

pub returns-in_default : goal.returns-in_default
unfolding record_of has_next
returns-in_default c = rw c.in_default.is

pub returns-in_default-len : goal.returns-in_default-len
unfolding record_of has_next
returns-in_default-len c =
    let p = c.args.place in
    rw (c.in-Ok.is, lt-leb _ _ (len_over p.format _ (sym c.len.ensures ∙ c.in_default-len.is)))

pub returns-then-place-eq0 : goal.returns-then-place-eq0
unfolding record_of has_next
returns-then-place-eq0 c =
    let p = c.args.place in
    rw
    (c.in-Ok.is, le-leb _ _ (len-le p.format _ (sym c.len.ensures ∙ c.in-Ok-len.is)), le-ltb 0 p.left (omega arith))

pub returns : goal.returns
unfolding whole_at record_of has_next
returns c =
    let p = c.args.place in
    let is = sym c.len.ensures ∙ c.in-Ok-len.is in
    rw
    (c.whole_at.ensures, c.in-Ok.is, le-leb _ _ (len-le p.format _ is), lt-ltb 0 p.left (omega arith), len_is p.format _ is)
