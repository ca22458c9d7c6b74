use Prim.Native.Nat.{◌<◌}
use native.Mathlib.Omega.{arith}
use borrow.Author.Rules.{rules}
use Rattle.refusal.proofs.Tests.{tests}
use Rattle.header.specs.Judged.{standard_of}
use Rattle.header.proofs.Version.header_size.Goals as goal

pub overflow_cast-refused : goal.overflow_cast-refused
unfolding standard_of
overflow_cast-refused c = search rules

pub overflow_mul-refused : goal.overflow_mul-refused
unfolding standard_of
overflow_mul-refused c = search rules

pub overflow_cast-refused-2 : goal.overflow_cast-refused-2
unfolding standard_of
overflow_cast-refused-2 c = search rules

pub overflow_add-refused : goal.overflow_add-refused
unfolding standard_of
overflow_add-refused c = search rules

pub returns-then-self-ne1 : goal.returns-then-self-ne1
unfolding standard_of
returns-then-self-ne1 c = search tests

pub returns-then-minor-lt3 : goal.returns-then-minor-lt3
unfolding standard_of
returns-then-minor-lt3 c = let h : c.args.self.minor < 5 = omega arith in search tests

pub returns-then-minor-lt4 : goal.returns-then-minor-lt4
unfolding standard_of
returns-then-minor-lt4 c = let h : c.args.self.minor < 5 = omega arith in search tests

pub returns-then-minor-lt5 : goal.returns-then-minor-lt5
unfolding standard_of
returns-then-minor-lt5 c = search tests

pub returns : goal.returns
unfolding standard_of
returns c = search tests
