use borrow.Author.Rules.{rules}
use mathlib.Core.Path.{◌≡◌}
use lib.ListN.{length}
use Rattle.header_convert.specs.Lists.{all-numbers}
use Rattle.header_convert.proofs.widened.Goals as goal
use Rattle.header_convert.proofs.widened.Goals.{Start}

-- the array has five numbers
five : (s : Start) → length s.args.xs ≡ 5
five s = search rules

pub returns : goal.returns
returns c = all-numbers 5 c.args.xs (five c)
