use Rattle.refusal.proofs.Tests.{tests}
use Rattle.capi_point.specs.Numbers.{time_from}
use Rattle.capi_point.proofs.time_from.Goals as goal

pub returns-then-nth-eq0 : goal.returns-then-nth-eq0
unfolding time_from
returns-then-nth-eq0 c = rw (← c.nth.ensures) (search tests)

pub returns : goal.returns
unfolding time_from
returns c = rw (c.from_bits.ensures, c.nth-2.ensures, ← c.nth.ensures) (search tests)
