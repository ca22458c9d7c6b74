use borrow.Author.Rules.{rules}
use Rattle.header.specs.Kinds.{nums}
use Rattle.header.proofs.by_return.Goals as goal

pub returns : goal.returns
unfolding nums
returns c = search rules
