use Prim.Native.Nat.{◌-◌}
use Rattle.sheet_count.proofs.Turn.{Counting}
use Rattle.sheet_count.proofs.tally_at.Given as goal

-- The loop goes by `Counting`, a record more in each turn (proofs/Turn.antt).
abbrev pub invariant-loop-i : goal.invariant-loop-i
invariant-loop-i l = Counting l.extended l.first l.stride l.n l.s l.classes l.returns l.extent l.i
