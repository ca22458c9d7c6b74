use Rattle.std.specs.Prelude.{Ok}
use Prim.Native.Nat.{◌+◌, ◌-◌, ◌≤◌}
use mathlib.Core.Path.{◌≡◌}
use lib.ListN.{length, drop}
use Rattle.rules.specs.Rules.{first, record_rules}
use Rattle.rules.proofs.check_records.Given as goal

-- The invariant: what is still to be walked decides, after those found whole, and they are what was spent.
abbrev pub invariant-loop : goal.invariant-loop
invariant-loop l =
    (l.whole ≡ l.found + l.counter) × (l.counter ≤ l.count) × (l.allowed ≡ l.allowance - l.whole) × (l.at ≤ length l.rest) × (first (record_rules l.extended l.allowance l.whole (l.count - l.counter) (drop l.at l.rest)) (Ok (l.found + l.count)) ≡ first (record_rules l.extended l.allowance l.found l.count l.rest) (Ok (l.found + l.count)))
