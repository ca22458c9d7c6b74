use Prim.Native.Nat.{◌+◌, ◌-◌, ◌*◌, ◌≤◌}
use mathlib.Core.Path.{◌≡◌}
use lib.ListN.{length}
use Rattle.std.specs.Slice.Iter.{chunks_exact_rest, chunks_exact_size}
use Rattle.tally.specs.Tally.{count_of}
use Rattle.tally.proofs.count_all.Given as goal

-- The invariant is over what is left: what is counted so far, and of the records from here on, is what is to be counted.
abbrev pub invariant-loop-record : goal.invariant-loop-record
invariant-loop-record l =
    let left = l.n - length l.yielded in
    let rest = chunks_exact_rest l.«record-iterator» in
    (chunks_exact_size l.«record-iterator» ≡ l.m) × (length l.yielded ≤ l.n) × (length rest ≡ left * l.m)
    × (l.first + count_of l.format 1 left rest ≡ count_of l.format 1 l.n l.records)
    × (l.second + count_of l.format 2 left rest ≡ count_of l.format 2 l.n l.records)
    × (l.third + count_of l.format 3 left rest ≡ count_of l.format 3 l.n l.records)
    × (l.fourth + count_of l.format 4 left rest ≡ count_of l.format 4 l.n l.records)
    × (l.fifth + count_of l.format 5 left rest ≡ count_of l.format 5 l.n l.records)
