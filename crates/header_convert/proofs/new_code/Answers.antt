use Rattle.refusal.proofs.Tests.{tests}
use Rattle.header_convert.specs.Turned.{new_code}
use Rattle.header_convert.proofs.new_code.Goals as goal

pub returns-then-format-eq1 : goal.returns-then-format-eq1
unfolding new_code
returns-then-format-eq1 c = search tests

pub returns-else-format-eq1 : goal.returns-else-format-eq1
unfolding new_code
returns-else-format-eq1 c = search tests
