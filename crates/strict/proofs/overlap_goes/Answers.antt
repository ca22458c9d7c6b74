use mathlib.Core.Path.{refl}
use borrow.Author.Tests.{ne_eqb}
use Rattle.strict.specs.Laws.{never_28, says_12}
use Rattle.strict.proofs.overlap_goes.Goals as goal

pub returns-then-class-eq-READ_AS_OVERLAP_TOO : goal.returns-then-class-eq-READ_AS_OVERLAP_TOO
returns-then-class-eq-READ_AS_OVERLAP_TOO c = rw (c.if-class-eq-READ_AS_OVERLAP_TOO.true, never_28)

pub returns : goal.returns
returns c = rw (says_12 c.args.class (ne_eqb _ _ c.if-class-eq-READ_AS_OVERLAP_TOO.false) c.args.overlap _ refl)
