use Prim.Native.Nat.{◌+◌, ◌-◌, ◌*◌, ◌≤◌}
use mathlib.Core.Path.{◌≡◌}
use lib.ListN.{length, drop}
use Rattle.judge.specs.Judge.{judge_run}
use Rattle.judge.proofs.judge_records.Given as goal

-- The invariant is over what is left: what is said of the records from here on is what is to be said of the run.
abbrev pub invariant-loop-i : goal.invariant-loop-i
invariant-loop-i l =
    (l.i ≤ l.count) × (l.at + (l.count - l.i) * l.m ≤ length l.src) × (judge_run l.format l.m (l.i + 1) (l.count - l.i) (drop l.at l.src) ≡ judge_run l.format l.m 1 l.count l.src)
