use Prim.Native.Nat.{◌-◌}
use Rattle.finding.specs.Rules.{large_at}
use Rattle.finding.specs.Told.{Telling}
use Rattle.finding.proofs.tell_larges.Given as goal

abbrev pub invariant-loop-i : goal.invariant-loop-i
invariant-loop-i l = Telling (large_at l.file l.numbers l.part) 1 15 l.fn.n l.initial.out l.n l.out l.i

abbrev pub decreases-loop-i : goal.decreases-loop-i
decreases-loop-i l = 16 - l.i
