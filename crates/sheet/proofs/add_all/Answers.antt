use Prim.Native.Nat.{◌<◌}
use native.Mathlib.Omega.{arith}
use lib.ListN.{length}
use Rattle.sheet.proofs.Adding.{fits-here, step, done}
use Rattle.sheet.proofs.add_all.Goals as goal
use Rattle.sheet.proofs.add_all.Goals.{In-loop-i}

in_a : (c : In-loop-i) → c.loop-i.i < length c.loop-i.a
in_a c = omega (arith, c.loop-i.invariant.kept, c.loop-i-test.true, c.requires.0)

pub loop-i-preserved : goal.loop-i-preserved
loop-i-preserved c =
    step c.args.a.now c.args.b.now c.loop-i.invariant (in_a (goal.at.loop-i-preserved c).In-loop-i) c.loop-i-test.true

pub returns : goal.returns
returns c =
    done c.args.a.now c.args.b.now c.loop-i.invariant (omega (arith, c.loop-i.invariant.kept, c.loop-i-test.false, c.requires.0))

pub overflow_add-a : goal.overflow_add-a
overflow_add-a c =
    omega (arith, fits-here c.args.a.now c.args.b.now c.loop-i.invariant (in_a (goal.at.overflow_add-a c).In-loop-i) c.loop-i-test.true)
