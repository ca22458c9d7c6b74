use Prim.Native.Nat.{◌+◌, ◌-◌, ◌≤◌}
use mathlib.Core.Path.{◌≡◌}
use lib.ListN.{length, drop}
use Rattle.first_vlr.specs.First.{first_from}
use Rattle.first_vlr.proofs.first_in.Given as goal

-- The invariant: what is still to be searched decides.
abbrev pub invariant-loop : goal.invariant-loop
invariant-loop l =
    (l.counter ≤ l.count) × (l.at ≤ length l.rest) × (first_from l.user l.record_id (l.count - l.counter) (l.from + l.at) (drop l.at l.rest) ≡ first_from l.user l.record_id l.count l.from l.rest)
