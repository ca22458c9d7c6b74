use Prim.Native.Nat.{◌≤◌}
use mathlib.Core.Path.{◌≡◌}
use Rattle.sectors.specs.Sectors.{after_stores}
use Rattle.append.proofs.store_all.Given as goal

abbrev pub invariant-loop-k : goal.invariant-loop-k
invariant-loop-k l = (l.file ≡ after_stores l.sweep l.records l.bounds l.k l.initial.file) × (l.k ≤ l.k-end)
