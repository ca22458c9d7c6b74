use borrow.Author.Tests.{eq-eqb, ne_eqb}
use Rattle.words.specs.Rows.{part_row}
use Rattle.words.proofs.tell_part.Goals as goal

pub returns-then-bytes-eq0 : goal.returns-then-bytes-eq0
unfolding part_row
returns-then-bytes-eq0 c = rw (eq-eqb _ _ c.if-bytes-eq0.true)

pub returns : goal.returns
unfolding part_row
returns c = rw (ne_eqb _ _ c.if-bytes-eq0.false)
