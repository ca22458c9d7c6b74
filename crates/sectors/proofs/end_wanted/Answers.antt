use mathlib.Core.Path.{sym}
use native.Mathlib.Omega.{arith}
use Rattle.refusal.specs.Laws.{wanted-fits, wanted_over}
use Rattle.sectors.proofs.end_wanted.Goals as goal

pub returns-then-sweep : goal.returns-then-sweep
returns-then-sweep c = sym (wanted_over _ (omega arith))

pub returns : goal.returns
returns c = sym (wanted-fits _ (omega arith))
