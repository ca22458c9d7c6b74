use Prim.Native.Nat.{◌+◌, ◌-◌, ◌*◌}
use mathlib.Core.Path.{◌≡◌}
use Rattle.finding.specs.Told.{Telling}
use Rattle.findings.specs.Found.{point_at}
use Rattle.findings.proofs.tell_odd.Given as goal

abbrev pub invariant-loop-i : goal.invariant-loop-i
invariant-loop-i l = Telling (point_at l.file l.extended l.first l.each l.number) 0 l.count l.fn.n l.initial.out l.n l.out l.i × (l.at ≡ l.first + l.i * l.each)

abbrev pub decreases-loop-i : goal.decreases-loop-i
decreases-loop-i l = l.count - l.i
