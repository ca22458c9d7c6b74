use Prim.Native.Nat.{◌+◌, ◌-◌, ◌*◌, ◌≤◌}
use mathlib.Core.Path.{◌≡◌}
use lib.ListN.{drop}
use Rattle.attribute.specs.Attributes.{sizes_of}
use Rattle.attribute.specs.Find.{named_from}
use Rattle.attribute.proofs.named_in.Given as goal

-- The invariant: what is still to be searched decides, and the sizes before it and after it are those of all.
abbrev pub invariant-loop-i : goal.invariant-loop-i
invariant-loop-i l =
    (l.i ≤ l.count) × (l.place + sizes_of (l.count - l.i) (drop (l.i * 192) l.«data») ≤ 65535) × (named_from l.name (l.count - l.i) (l.i * 192) l.place (drop (l.i * 192) l.«data») ≡ named_from l.name l.count 0 0 l.«data»)
