use Rattle.std.proofs.Common.{◌≡◌, ◌+◌, length}
use Rattle.cursor.specs.Cursor.{left_of}
use Rattle.parts.proofs.count.Given as goal

-- The invariant: those counted and those that the cursor has still to tell are all.
abbrev pub invariant-loop-step : goal.invariant-loop-step
invariant-loop-step l = l.n + length (left_of l.file l.c) ≡ length (left_of l.file l.initial.c)

abbrev pub decreases-loop-step : goal.decreases-loop-step
decreases-loop-step l = length (left_of l.file l.c)
