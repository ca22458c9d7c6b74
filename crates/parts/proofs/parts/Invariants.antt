use Rattle.std.proofs.Common.{◌≡◌, ◌+◌, length}
use Rattle.std.proofs.lemmas.List.Edits.{sets}
use Rattle.cursor.specs.Cursor.{left_of}
use Rattle.parts.proofs.parts.Given as goal

-- So many entries are set, and the others, set from the cursor on, make the table that is wanted.
abbrev pub invariant-loop-step : goal.invariant-loop-step
invariant-loop-step l =
    (length l.table ≡ length l.fn.table)
    × (l.i + length (left_of l.file l.c) ≡ length (left_of l.file l.initial.c))
    × (sets l.table l.i (left_of l.file l.c) ≡ sets l.fn.table 0 (left_of l.file l.initial.c))

abbrev pub decreases-loop-step : goal.decreases-loop-step
decreases-loop-step l = length (left_of l.file l.c)
