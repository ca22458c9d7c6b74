use Prim.Native.Nat.{◌-◌, ◌*◌, ◌≤◌}
use mathlib.Core.Path.{◌≡◌}
use lib.ListN.{drop}
use Rattle.attribute.specs.Attributes.{types_known}
use Rattle.attribute.proofs.types_known.Given as goal

abbrev pub invariant-loop-i : goal.invariant-loop-i
invariant-loop-i l = (l.i ≤ l.count) × (types_known (l.count - l.i) (drop (l.i * 192) l.«data») ≡ types_known l.count l.«data»)
