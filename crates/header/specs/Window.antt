-- What lies in the first k bytes is read the same from those alone.
use Rattle.std.specs.Prelude.{ℕ, ◌+◌, ◌-◌, ◌≤◌, ◌≡◌, List, take, drop}
use Rattle.std.proofs.Common.{ap, ◌∙◌, arith, take-take}
pub use Rattle.le.specs.Laws.{drop-take}

pub part-take : (k : ℕ) (s : List ℕ) (n at : ℕ) → at + n ≤ k → take n (drop at (take k s)) ≡ take n (drop at s)
part-take k s n at h = ap (take n) (drop-take at k s) ∙ take-take n (k - at) (drop at s) (omega arith)
