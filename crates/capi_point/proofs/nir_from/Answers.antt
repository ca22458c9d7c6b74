use Rattle.refusal.proofs.Tests.{tests}
use Rattle.capi_point.specs.Numbers.{nir_from}
use Rattle.capi_point.proofs.nir_from.Goals as goal

pub returns-then-nth-eq0 : goal.returns-then-nth-eq0
unfolding nir_from
returns-then-nth-eq0 c = rw (← c.nth.ensures) (search tests)

pub returns : goal.returns
unfolding nir_from
returns c = rw (c.low16.ensures, ← c.nth.ensures) (search tests)
