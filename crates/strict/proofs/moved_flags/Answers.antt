use borrow.Author.Rules.{rules}
use borrow.Author.Tests.{eq-eqb, ne_eqb}
use mathlib.Core.Bool.{true, false}
use native.Mathlib.Omega.{arith}
use Rattle.strict.specs.Upgrade.{upgraded_flags}
use Rattle.strict.proofs.Raised.{raised}
use Rattle.strict.proofs.moved_flags.Goals as goal

pub returns-then-class-eq-OVERLAP_CLASSIFICATION_CODE : goal.returns-then-class-eq-OVERLAP_CLASSIFICATION_CODE
unfolding upgraded_flags
returns-then-class-eq-OVERLAP_CLASSIFICATION_CODE c = rw (eq-eqb _ _ c.if-class-eq-OVERLAP_CLASSIFICATION_CODE.true) (raised _ _ (search rules) (search rules) true _ (omega arith))

pub returns : goal.returns
unfolding upgraded_flags
returns c = rw (ne_eqb _ _ c.if-class-eq-OVERLAP_CLASSIFICATION_CODE.false) (raised _ _ (search rules) (search rules) false _ (omega arith))
