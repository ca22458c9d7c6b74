use Prim.Native.Nat.{ℕ, ◌≤◌, ◌<◌, ◌-◌}
use mathlib.Core.Path.{◌≡◌}
use mathlib.Core.Bool.{true}
use Rattle.directory.specs.Directory.{rising_at}
use Rattle.directory_write.specs.Written.{given_key}
use Rattle.directory_write.proofs.all_rising.Given as goal

-- The invariant: every key so far rises, the first of all in any case.
abbrev pub invariant-loop-k : goal.invariant-loop-k
invariant-loop-k l = (1 ≤ l.k) × ((j : ℕ) → j < l.k → rising_at (given_key l.keys) j ≡ true)

abbrev pub decreases-loop-k : goal.decreases-loop-k
decreases-loop-k l = l.n - l.k
