use Rattle.refusal.proofs.Tests.{tests}
use Rattle.capi_header_write.specs.Numbers.{evlr_from}
use borrow.Author.Rules.{rules}
use Rattle.capi_header_write.proofs.evlr_from.Goals as goal

pub nth-requires : goal.nth-requires
unfolding evlr_from
nth-requires c = search rules

pub returns-then-nth-eq0 : goal.returns-then-nth-eq0
unfolding evlr_from
returns-then-nth-eq0 c = rw (← c.nth.ensures) (search tests)

pub nth-requires-2 : goal.nth-requires-2
unfolding evlr_from
nth-requires-2 c = search rules

pub low32-requires : goal.low32-requires
unfolding evlr_from
low32-requires c = search rules

pub returns : goal.returns
unfolding evlr_from
returns c = rw (← c.nth.ensures, ← c.nth-2.ensures, ← c.low32.ensures) (search tests)
