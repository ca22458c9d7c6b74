use borrow.Author.Tests.{eq-eqb, ne_eqb}
use Rattle.cursor.specs.Parts.{later_start}
use Rattle.cursor.proofs.start_of_later_records.Goals as goal

pub returns-then-o-eq0 : goal.returns-then-o-eq0
unfolding later_start
returns-then-o-eq0 c = rw (eq-eqb _ _ c.if-o-eq0.true) c.requires

pub returns : goal.returns
unfolding later_start
returns c = rw (ne_eqb _ _ c.if-o-eq0.false)
