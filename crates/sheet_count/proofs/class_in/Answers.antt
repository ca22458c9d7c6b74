use mathlib.Core.Path.{◌∙◌}
use native.Mathlib.Omega.{arith}
use borrow.Author.Rules.{rules}
use Rattle.point.specs.Read.{flags_at}
use Rattle.sheet_count.proofs.class_in.Goals as goal

pub returns-then-extended : goal.returns-then-extended
unfolding flags_at
returns-then-extended c = (c.u8_at.ensures ∙ rw c.if-extended.true, search rules)

pub returns : goal.returns
unfolding flags_at
returns c = (rw (c.if-extended.false, c.u8_at-2.ensures), omega arith)
