use Rattle.refusal.proofs.Tests.{tests}
use Rattle.capi_cursor.specs.Numbers.{stage_from}
use Rattle.capi_cursor.proofs.stage_from.Goals as goal

pub returns-then-n-eq0 : goal.returns-then-n-eq0
unfolding stage_from
returns-then-n-eq0 c = search tests

pub returns-then-n-eq1 : goal.returns-then-n-eq1
unfolding stage_from
returns-then-n-eq1 c = search tests

pub returns-then-n-eq2 : goal.returns-then-n-eq2
unfolding stage_from
returns-then-n-eq2 c = search tests

pub returns-then-n-eq3 : goal.returns-then-n-eq3
unfolding stage_from
returns-then-n-eq3 c = search tests

pub returns : goal.returns
unfolding stage_from
returns c = search tests
