use Prim.Native.Nat.{◌+◌, ◌*◌, ◌≤◌}
use mathlib.Core.Path.{◌≡◌}
use lib.ListN.{length}
use lib.Seq.{sets}
use Rattle.cursor.specs.Cursor.{left_of}
use Rattle.capi_file.specs.Parts.{numbers_of}
use Rattle.capi_file.proofs.fill.Given as goal

-- The invariant: what the cursor has still to tell, stored from here on, makes the whole.
abbrev pub invariant-loop-step : goal.invariant-loop-step
invariant-loop-step l =
    (l.at + 3 * length (left_of l.file l.c) ≤ length l.table) × (length l.table ≡ length l.initial.table) × (sets l.table l.at (numbers_of (left_of l.file l.c)) ≡ sets l.initial.table 0 (numbers_of (left_of l.file l.initial.c)))

abbrev pub decreases-loop-step : goal.decreases-loop-step
decreases-loop-step l = length (left_of l.file l.c)
