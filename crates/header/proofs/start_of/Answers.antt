use Rattle.refusal.proofs.Tests.{tests}
use Rattle.header.specs.Header.{start_of}
use Rattle.header.proofs.start_of.Goals as goal

pub returns-then-n-eq0 : goal.returns-then-n-eq0
unfolding start_of
returns-then-n-eq0 c = search tests

pub returns-else-n-eq0 : goal.returns-else-n-eq0
unfolding start_of
returns-else-n-eq0 c = search tests
