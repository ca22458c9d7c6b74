use borrow.Author.Tests.{eq-eqb}
use borrow.Author.Rules.{rules}
use Rattle.refusal.proofs.Tests.{tests}
use Rattle.header.specs.Header.{points_of}
use Rattle.header.proofs.Header.number_of_point_records.Goals as goal

pub overflow_cast-result : goal.overflow_cast-result
unfolding points_of
overflow_cast-result c = search rules

pub returns-then-self-ne0 : goal.returns-then-self-ne0
unfolding points_of
returns-then-self-ne0 c = search tests

pub returns-then-self : goal.returns-then-self
unfolding points_of
returns-then-self c = rw (eq-eqb _ _ c.if-self-ne0.false, c.if-self.true)

pub returns-else-self : goal.returns-else-self
unfolding points_of
returns-else-self c = rw (eq-eqb _ _ c.if-self-ne0.false, c.if-self.false)
