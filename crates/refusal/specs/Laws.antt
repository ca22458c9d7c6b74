-- Laws of the table: what is wanted where it fits and where it does not, a product tested by division, and the three numbers of a row.
use Rattle.std.specs.Prelude.{Option, Some, None}
use Rattle.std.specs.Option.{SomeIff, unwrap_or}
use Rattle.std.specs.Prelude.{ℕ, ◌*◌, ◌/◌, ◌^◌, ◌≤◌, ◌<◌, ◌≡◌}
use Rattle.std.proofs.Math.Path.{refl}
use Rattle.std.proofs.Common.{sym, ◌∙◌, arith, div-lt_iff_lt-mul, le-div_iff_mul-le, lt-ltb, le-ltb}
use Rattle.refusal.specs.declared.Refusal.{Refusal}
use Rattle.refusal.specs.Table.{number_of, wanted_of, value_of, row_of}

pub wanted-fits : (n : ℕ) → n < 2 ^ 64 → wanted_of n ≡ n
unfolding wanted_of
wanted-fits n h = rw (lt-ltb n (2 ^ 64) h)

pub wanted_over : (n : ℕ) → 2 ^ 64 ≤ n → wanted_of n ≡ 0
unfolding wanted_of
wanted_over n h = rw (le-ltb n (2 ^ 64) h)

-- a sum or product by the test whether it fits, with 0 where it does not
pub wanted-checked : (o : Option ℕ) (n : ℕ) → SomeIff o (n < 2 ^ 64) n → unwrap_or o 0 ≡ wanted_of n
wanted-checked (Some x) n h = h.1 ∙ sym (wanted-fits n h.0)
wanted-checked None n h = sym (wanted_over n (omega arith))

-- a test by division, which cannot wrap, says what the product would
pub div-le : (m n size : ℕ) → 0 < m → n ≤ size / m → n * m ≤ size
div-le m n size h g = (le-div_iff_mul-le h).0 g

pub div-lt : (m n size : ℕ) → 0 < m → size / m < n → size < n * m
div-lt m n size h g = (div-lt_iff_lt-mul h).0 g

module _ (r : Refusal) (n : ℕ) where
  pub row_is : row_of r n ≡ record { number = number_of r; value = value_of r; «record» = n }
  unfolding row_of
  row_is = refl
