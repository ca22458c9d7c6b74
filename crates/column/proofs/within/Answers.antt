use Rattle.std.proofs.Common.{arith}
use Rattle.std.proofs.lemmas.Bool.Decides.{nat_tests}
use Rattle.std.proofs.lemmas.Grind.{common_steps}
use Rattle.column.specs.Column.{within}
use Rattle.column.proofs.within.Goals as goal

pub returns-then-first-points : goal.returns-then-first-points
unfolding within
returns-then-first-points c = grind (arith, common_steps, nat_tests)

pub returns-else-first-points : goal.returns-else-first-points
unfolding within
returns-else-first-points c = grind (arith, common_steps, nat_tests)
