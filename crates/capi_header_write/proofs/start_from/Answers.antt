use Rattle.refusal.proofs.Tests.{tests}
use Rattle.capi_header_write.specs.Numbers.{start_from}
use borrow.Author.Rules.{rules}
use Rattle.capi_header_write.proofs.start_from.Goals as goal

pub nth-requires : goal.nth-requires
unfolding start_from
nth-requires c = search rules

pub returns-then-nth-eq0 : goal.returns-then-nth-eq0
unfolding start_from
returns-then-nth-eq0 c = rw (← c.nth.ensures) (search tests)

pub nth-requires-2 : goal.nth-requires-2
unfolding start_from
nth-requires-2 c = search rules

pub returns : goal.returns
unfolding start_from
returns c = rw (← c.nth.ensures, ← c.nth-2.ensures) (search tests)
