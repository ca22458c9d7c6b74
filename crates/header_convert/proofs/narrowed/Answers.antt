use Prim.Native.Nat.{ℕ, ◌^◌, ◌<◌}
use mathlib.Core.Path.{◌≡◌}
use mathlib.Core.Bool.{true}
use mathlib.Core.List.{List}
use native.Mathlib.Omega.{arith}
use borrow.Author.Rules.{rules}
use borrow.Author.Tests.{ltb-true}
use lib.ListN.{length, get_or}
use Rattle.std.specs.List.{list_all}
use Rattle.header_convert.specs.Turned.{fits32}
use Rattle.header_convert.specs.Lists.{all-numbers, each-passes}
use Rattle.header_convert.proofs.narrowed.Goals as goal

-- each of five numbers that fit
small : (xs : List ℕ) → length xs ≡ 5 → list_all fits32 xs ≡ true → (k : ℕ) → k < 5 → get_or xs k 0 < 2 ^ 32
small xs five fit k h = ltb-true _ _ (each-passes fits32 xs fit k (omega arith))

pub overflow_cast-result : goal.overflow_cast-result
overflow_cast-result c = omega (arith, small c.args.xs (search rules) c.requires 0 (omega arith))

pub overflow_cast-result-2 : goal.overflow_cast-result-2
overflow_cast-result-2 c = omega (arith, small c.args.xs (search rules) c.requires 1 (omega arith))

pub overflow_cast-result-3 : goal.overflow_cast-result-3
overflow_cast-result-3 c = omega (arith, small c.args.xs (search rules) c.requires 2 (omega arith))

pub overflow_cast-result-4 : goal.overflow_cast-result-4
overflow_cast-result-4 c = omega (arith, small c.args.xs (search rules) c.requires 3 (omega arith))

pub overflow_cast-result-5 : goal.overflow_cast-result-5
overflow_cast-result-5 c = omega (arith, small c.args.xs (search rules) c.requires 4 (omega arith))

pub returns : goal.returns
returns c = all-numbers 5 c.args.xs (search rules)
