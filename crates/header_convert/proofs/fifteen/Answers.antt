use borrow.Author.Rules.{rules}
use mathlib.Core.Path.{◌≡◌, ap}
use mathlib.Core.List.{List, ◌++◌}
use Prim.Native.Nat.{ℕ}
use lib.ListN.{length, replicate}
use Rattle.header_convert.specs.Lists.{all-numbers}
use Rattle.header_convert.proofs.fifteen.Goals as goal
use Rattle.header_convert.proofs.fifteen.Goals.{Start}

-- the array has five numbers
five : (s : Start) → length s.args.xs ≡ 5
five s = search rules

pub returns : goal.returns
returns c = ap (λ (l : List ℕ). l ++ replicate 10 0) (all-numbers 5 c.args.xs (five c))
