use Rattle.refusal.proofs.Tests.{tests}
use Rattle.capi_point.specs.Numbers.{color_from}
use Rattle.capi_point.proofs.color_from.Goals as goal

pub returns-then-nth-eq0 : goal.returns-then-nth-eq0
unfolding color_from
returns-then-nth-eq0 c = rw (← c.nth.ensures) (search tests)

pub returns : goal.returns
unfolding color_from
returns c = rw (c.low16.ensures, c.low16-2.ensures, c.low16-3.ensures, ← c.nth.ensures) (search tests)
