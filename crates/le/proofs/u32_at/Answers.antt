use mathlib.Core.Path.{sym}
use native.Mathlib.Omega.{arith}
use Rattle.le.specs.Laws.{num-two, num_past}
use Rattle.le.proofs.u32_at.Goals as goal

pub returns-then-s-at : goal.returns-then-s-at
returns-then-s-at c = sym (num_past 4 c.args.s.now c.args.at c.if-s-at.true)

pub returns : goal.returns
returns c =
    let a = c.args in
    omega (arith, num-two 2 a.s.now a.at)
