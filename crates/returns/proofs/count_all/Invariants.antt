use Prim.Native.Nat.{◌-◌}
use lib.ListN.{length}
use Rattle.std.specs.Slice.Iter.{chunks_exact_rest, chunks_exact_size}
use Rattle.returns.proofs.Turn.{Counting}
use Rattle.returns.proofs.count_all.Given as goal

-- The invariant is over what is left (proofs/Turn.antt).
abbrev pub invariant-loop-record : goal.invariant-loop-record
invariant-loop-record l =
    Counting l.extended l.m l.n l.records l.numbers l.odd (chunks_exact_size l.«record-iterator») (l.n - length l.yielded) (chunks_exact_rest l.«record-iterator»)
