use Prim.Native.Nat.{◌-◌}
use Rattle.column.specs.Column.{same}
use Rattle.column.specs.Fill.{Filling}
use Rattle.attribute_value.proofs.fill.Given as goal

-- The loop goes by `Filling`, the one law of every column (column/specs/Fill.antt).
abbrev pub invariant-loop-i : goal.invariant-loop-i
invariant-loop-i l = Filling same l.width l.first l.stride l.n l.s l.initial.dst l.dst l.at l.i

abbrev pub decreases-loop-i : goal.decreases-loop-i
decreases-loop-i l = l.n - l.i
