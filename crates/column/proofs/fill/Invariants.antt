use Prim.Native.Nat.{◌-◌}
use Rattle.column.specs.Fill.{Filling}
use Rattle.column.proofs.fill.Given as goal

-- The loop goes by `Filling`, the one law of every width (specs/Fill.antt).
abbrev pub invariant-loop-i : goal.invariant-loop-i
invariant-loop-i g l = let t = g.T.Entry in Filling t.value t.WIDTH l.first l.stride l.n l.s l.initial.dst l.dst l.at l.i

abbrev pub decreases-loop-i : goal.decreases-loop-i
decreases-loop-i g l = l.n - l.i
