use lib.ListN.{length}
use Rattle.cursor.specs.Cursor.{left_of}
use Rattle.findings.specs.Laws.{Driving}
use Rattle.findings.proofs.tell_parts.Given as goal

abbrev pub invariant-loop-step : goal.invariant-loop-step
invariant-loop-step l = Driving l.file l.survey l.initial.c l.initial.out l.n l.out l.number l.c

abbrev pub decreases-loop-step : goal.decreases-loop-step
decreases-loop-step l = length (left_of l.file l.c)
