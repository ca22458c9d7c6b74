use Prim.Native.Nat.{ℕ, ◌+◌, ◌-◌}
use mathlib.Core.List.{List}
use lib.IntN.{ℤ}
use mir.Syntax.{w32}
use mir.Val.{to_z}
use Rattle.column.specs.Fill.{Filling}
use Rattle.column_xyz.proofs.fill.Given as goal

-- Three loops side by side, each by `Filling`, the one law of every column (column/specs/Fill.antt).
-- before turn i: the buffer of the numbers k bytes past the first of the three
abbrev pub Third : ℕ → ℕ → ℕ → ℕ → List ℕ → List ℤ → List ℤ → ℕ → ℕ → Type 0
Third k first stride n s d₀ d at i = Filling (to_z w32) 4 (first + k) stride n s d₀ d (at + k) i

pub record Filling3 (first stride n : ℕ) (s : List ℕ) (x₀ y₀ z₀ x y z : List ℤ) (at i : ℕ) : Type 0 where
  pub xs : Filling (to_z w32) 4 first stride n s x₀ x at i
  pub ys : Third 4 first stride n s y₀ y at i
  pub zs : Third 8 first stride n s z₀ z at i

abbrev pub invariant-loop-i : goal.invariant-loop-i
invariant-loop-i l = Filling3 l.first l.stride l.n l.s l.initial.xs l.initial.ys l.initial.zs l.xs l.ys l.zs l.at l.i

abbrev pub decreases-loop-i : goal.decreases-loop-i
decreases-loop-i l = l.n - l.i
