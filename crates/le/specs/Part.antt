-- A number is read from a part of some bytes as from the bytes themselves.
use Rattle.std.specs.Prelude.{ℕ, ◌+◌, ◌≤◌, ◌≡◌, List, take, drop}
use Rattle.std.proofs.Common.{◌∙◌, add-zero, arith, drop-drop}
use Rattle.le.specs.Le.{num}
use Rattle.le.specs.Laws.{num-take}

pub num-drop : (w k at : ℕ) (s : List ℕ) → num w k (drop at s) ≡ num w (at + k) s
unfolding num
num-drop w k at s = rw drop-drop

-- a number in the n bytes from `at` on
pub num-part : (w k n at : ℕ) (s : List ℕ) → k + w ≤ n → num w k (take n (drop at s)) ≡ num w (at + k) s
num-part w k n at s h = num-take w k (drop at s) n h ∙ num-drop w k at s

-- the one that they start with
pub num-first : (w n at : ℕ) (s : List ℕ) → w ≤ n → num w 0 (take n (drop at s)) ≡ num w at s
num-first w n at s h = num-part w 0 n at s (omega arith) ∙ rw add-zero
