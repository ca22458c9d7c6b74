use Prim.Native.Nat.{◌-◌}
use Rattle.finding.specs.Rules.{legacy_at}
use Rattle.finding.specs.Told.{Telling}
use Rattle.finding.proofs.tell_legacies.Given as goal

abbrev pub invariant-loop-i : goal.invariant-loop-i
invariant-loop-i l = Telling (legacy_at l.file l.extended l.large l.numbers l.part) 1 5 l.fn.n l.initial.out l.n l.out l.i

abbrev pub decreases-loop-i : goal.decreases-loop-i
decreases-loop-i l = 6 - l.i
