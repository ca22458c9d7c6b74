use Rattle.refusal.proofs.Tests.{tests}
use Rattle.header_convert.specs.Turned.{old_code}
use Rattle.header_convert.proofs.old_code.Goals as goal

pub returns-then-format-eq6 : goal.returns-then-format-eq6
unfolding old_code
returns-then-format-eq6 c = search tests

pub returns-else-format-eq6 : goal.returns-else-format-eq6
unfolding old_code
returns-else-format-eq6 c = search tests
