-- Document 02, No. 7: "The answers stay those of No. 6." What X, Y and Z in one pass leave is what the three columns leave, each in its buffer.
use Rattle.std.specs.Prelude.{Result, Ok, Err, ℕ, ◌≡◌, List, ◌↔◌, ◌⊎◌, ℤ}
use Rattle.refusal.specs.Refused.{at_record}
use Rattle.refusal.specs.declared.Refused.{Refused}
use Rattle.std.proofs.Common.{ap, to_z}
use Rattle.std.specs.Int.{w32}
use Rattle.refusal.specs.declared.Refusal.{Refusal}
use Rattle.column.specs.declared.Axis as axes
use Rattle.column.specs.declared.Axis.TheVariants.{X, Y, Z}
use Rattle.column.specs.declared.Column.TheVariants.{Axis}
use Rattle.column.specs.Column.{column_of}
use Rattle.column_xyz.specs.Xyz.{xyz_of}
use Rattle.column_xyz.specs.Laws.{xyz_refused, was_stopped, was-filled, three_columns, one_refuses, one-refused}

module _ (allowance first count : ℕ) (s : List ℕ) (x y z : List ℤ) where
  -- the one pass: its answer, and the three buffers; and a column by itself
  abbrev answer : Result ℕ Refused
  answer = (xyz_of allowance first count s x y z).0

  abbrev after : List ℤ × List ℤ × List ℤ
  after = (xyz_of allowance first count s x y z).1

  abbrev column : axes.Axis → List ℤ → Result ℕ Refused × List ℤ
  column a d = column_of (to_z w32) (Axis a) allowance first count s d

  -- Where it fills, each column would fill as many entries, and leave this.
  pub as_columns : {n : ℕ} → answer ≡ Ok n → (column X x ≡ (Ok n, after.0)) × (column Y y ≡ (Ok n, after.1)) × (column Z z ≡ (Ok n, after.2))
  as_columns e = let (r, same) = was-filled allowance first count s x y z e in rw same (three_columns allowance first count s x y z r)

  -- It refuses exactly where one of the columns would, and likewise: so 22 where any of the three is short,
  pub refused_exactly : (why : Refusal) (j : ℕ) → (answer ≡ Err (at_record why j)) ↔ (((column X x).0 ≡ Err (at_record why j)) ⊎ ((column Y y).0 ≡ Err (at_record why j)) ⊎ ((column Z z).0 ≡ Err (at_record why j)))
  refused_exactly why j = (
    λ e. one_refuses allowance first count s x y z (was_stopped allowance first count s x y z e).0,
    λ some. ap (λ (p : Result ℕ Refused × (List ℤ × List ℤ × List ℤ)). p.0) (xyz_refused allowance first count s x y z (one-refused allowance first count s x y z some)),
  )

  -- and then leaves all three.
  pub untouched : {why : Refusal} {j : ℕ} → answer ≡ Err (at_record why j) → after ≡ (x, y, z)
  untouched e = (was_stopped allowance first count s x y z e).1
