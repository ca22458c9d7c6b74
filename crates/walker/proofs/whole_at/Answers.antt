use Prim.Native.Nat.{◌+◌, ◌-◌}
use mathlib.Core.Path.{◌≡◌}
use borrow.Author.Tests.{le-leb, lt-leb}
use native.Mathlib.Omega.{arith}
use lib.ListN.{length}
use Rattle.walker.specs.Walk.{whole_at}
use Rattle.walker.proofs.whole_at.Goals as goal

pub returns-then-s-n : goal.returns-then-s-n
unfolding whole_at
returns-then-s-n c = let a = c.args in rw (lt-leb (a.at + a.n) (length a.s.now) (omega arith))

pub returns-then-s-n-2 : goal.returns-then-s-n-2
unfolding whole_at
returns-then-s-n-2 c = let a = c.args in rw (lt-leb (a.at + a.n) (length a.s.now) (omega arith))

pub returns : goal.returns
unfolding whole_at
returns c =
    let a = c.args in
    let n : a.at + a.n - a.at ≡ a.n = omega arith in
    rw (n, le-leb (a.at + a.n) (length a.s.now) (omega arith))
