use Prim.Native.Nat.{ℕ}
use mathlib.Core.Path.{◌≡◌}
use lib.ListN.{length}
use lib.Seq.{sets}
use Rattle.cursor.specs.Cursor.{left_of}
use Rattle.rewrite.specs.Rewritten.{back_of}
use Rattle.rewrite.specs.Asked.{Tiles}
use Rattle.rewrite.proofs.rewrite_parts.Given as goal

-- The invariant is over the parts that are left: from a place on they cover the file, and laid there they make of the
-- destination what is promised.
abbrev pub invariant-loop-step : goal.invariant-loop-step
invariant-loop-step l =
    (at : ℕ) × Tiles l.o l.file at (left_of l.file l.c) × (length l.dst ≡ length l.initial.dst) × (sets l.dst at (back_of l.o l.file (left_of l.file l.c)) ≡ sets l.initial.dst 0 (back_of l.o l.file (left_of l.file l.initial.c)))

abbrev pub decreases-loop-step : goal.decreases-loop-step
decreases-loop-step l = length (left_of l.file l.c)
