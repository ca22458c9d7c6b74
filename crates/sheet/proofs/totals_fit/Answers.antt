use Rattle.std.proofs.Common.{arith}
use Rattle.std.proofs.lemmas.Grind.{common_steps}
use Rattle.sheet.specs.Sheet.{totals_fit}
use Rattle.sheet.proofs.totals_fit.Goals as goal

pub returns-then-all_fit : goal.returns-then-all_fit
unfolding totals_fit
returns-then-all_fit c = grind (arith, common_steps)

pub returns-else-all_fit : goal.returns-else-all_fit
unfolding totals_fit
returns-else-all_fit c = grind (arith, common_steps)
