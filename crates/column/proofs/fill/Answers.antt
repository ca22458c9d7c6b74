use native.Mathlib.Omega.{arith}
use Rattle.column.specs.Fill.{Ahead, begun, ahead, step, done}
use Rattle.column.proofs.fill.Goals as goal
use Rattle.column.proofs.fill.Goals.{In-loop-i}

turn : (g : _) (c : In-loop-i g) → Ahead g.T.Entry.WIDTH c.args.stride c.args.s.now c.loop-i.at c.loop-i.i
turn g c = ahead c.loop-i.invariant c.requires.0 c.loop-i-test.true

pub loop-i-preserved : goal.loop-i-preserved
loop-i-preserved g c =
    step c.loop-i.invariant c.loop-i-test.true c.requires.1 (rw c.WIDTH.ensures at c.read.ensures)

pub loop-i-init : goal.loop-i-init
loop-i-init g c = begun

pub overflow_add-to : goal.overflow_add-to
overflow_add-to g c = omega (arith, c.WIDTH.ensures, (turn g (goal.at.overflow_add-to g c).In-loop-i).ends)

pub slice_bounds-read-start : goal.slice_bounds-read-start
slice_bounds-read-start g c = omega (arith, c.WIDTH.ensures, (turn g (goal.at.slice_bounds-read-start g c).In-loop-i).ends)

pub slice_bounds-read-end : goal.slice_bounds-read-end
slice_bounds-read-end g c = omega (arith, c.WIDTH.ensures, (turn g (goal.at.slice_bounds-read-end g c).In-loop-i).ends)

pub bounds-dst-i : goal.bounds-dst-i
bounds-dst-i g c = omega (arith, c.loop-i.invariant.kept, c.loop-i-test.true)

pub overflow_add-at : goal.overflow_add-at
overflow_add-at g c = omega (arith, (turn g (goal.at.overflow_add-at g c).In-loop-i).further, (turn g (goal.at.overflow_add-at g c).In-loop-i).ends)

pub loop-i-smaller : goal.loop-i-smaller
loop-i-smaller g c = omega (arith, c.loop-i-test.true)

pub shape_of-dst : goal.shape_of-dst
shape_of-dst g c = c.loop-i.invariant.kept

pub returns : goal.returns
returns g c = done c.loop-i.invariant c.loop-i-test.false
