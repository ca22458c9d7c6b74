use borrow.Author.Tests.{lt-ltb, le-ltb}
use Rattle.capi_descriptor.specs.Rows.{type_from}
use Rattle.capi_descriptor.proofs.type_from.Goals as goal

pub returns-then-n-gt255 : goal.returns-then-n-gt255
unfolding type_from
returns-then-n-gt255 c = rw (lt-ltb _ _ c.if-n-gt255.true)

pub returns-else-n-gt255 : goal.returns-else-n-gt255
unfolding type_from
returns-else-n-gt255 c = rw (le-ltb _ _ c.if-n-gt255.false)
