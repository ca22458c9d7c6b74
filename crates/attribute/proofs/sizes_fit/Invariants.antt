use Prim.Native.Nat.{◌-◌, ◌*◌, ◌≤◌}
use mathlib.Core.Path.{◌≡◌}
use lib.Dec.{leb}
use lib.ListN.{drop}
use Rattle.attribute.specs.Attributes.{sizes_of}
use Rattle.attribute.proofs.sizes_fit.Given as goal

abbrev pub invariant-loop-i : goal.invariant-loop-i
invariant-loop-i l = (l.i ≤ l.count) × (leb (sizes_of (l.count - l.i) (drop (l.i * 192) l.«data»)) l.room ≡ leb (sizes_of l.count l.«data») l.fn.room)
