use Rattle.header_write.proofs.Counts.{Left}
use Rattle.header_write.proofs.set_large_by_return.Given as goal

abbrev pub invariant-loop-i : goal.invariant-loop-i
invariant-loop-i l = Left 15 255 8 l.initial.d l.fn.xs l.d l.i
