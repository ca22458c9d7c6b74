use Rattle.header_write.proofs.Counts.{Left}
use Rattle.header_write.proofs.set_by_return.Given as goal

abbrev pub invariant-loop-i : goal.invariant-loop-i
invariant-loop-i l = Left 5 111 4 l.initial.d l.fn.xs l.d l.i
