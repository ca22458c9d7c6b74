-- A byte and the bits in it, as numbers.
use Rattle.std.specs.Prelude.{ℕ, zero, suc, ◌+◌, ◌*◌, ◌/◌, ◌%◌, ◌<◌, ◌≡◌, refl, eqb}
use Rattle.std.proofs.Common.{arith}
use Rattle.std.proofs.Math.Nat.{div-add-mod, div-div-eq-div-mul}
use Rattle.flags.specs.Readings.{low, field}
use Rattle.flags.specs.Bytes.{flag}

-- what lies from one place up is the digit there and what lies from the next place up
pub cut : (k n x : ℕ) → x / k ≡ x / k % n + n * (x / (k * n))
cut k n x = rw (← div-div-eq-div-mul x k n) (omega (arith, div-add-mod (x / k) n))

-- numbers alike from one place up are so from any later place up
pub above : (x y k n : ℕ) → x / k ≡ y / k → x / (k * n) ≡ y / (k * n)
above x y k n e = rw (← div-div-eq-div-mul x k n, ← div-div-eq-div-mul y k n, e)

-- the lowest three bits, one by one
pub low-three : (x : ℕ) → low 3 x ≡ low 1 x + 2 * field 1 1 x + 4 * field 2 1 x
low-three x = omega (arith, cut 2 2 x, cut 4 2 x)

-- sums of such cuts, over numbers alone
chain : (x a p b q c r d s e : ℕ) → x ≡ a + 8 * p → p ≡ b + 2 * q → q ≡ c + 4 * r → r ≡ d + 2 * s → s ≡ e → x ≡ a + 8 * b + 16 * c + 64 * d + 128 * e
chain x a p b q c r d s e f g h i j = omega arith

pub high_five : (x : ℕ) → x < 256 → x ≡ low 3 x + 8 * field 3 1 x + 16 * field 4 2 x + 64 * field 6 1 x + 128 * field 7 1 x
high_five x h = chain x (x % 8) _ _ _ _ _ _ _ _ (omega arith) (cut 8 2 x) (cut 16 4 x) (cut 64 2 x) (omega arith)

below_two : (n : ℕ) → n < 2 → flag (eqb n 1) ≡ n
below_two zero h = refl
below_two (suc zero) h = refl
below_two (suc (suc n)) h = absurd (omega arith)

-- a single bit, as a flag and as a number
pub flag-bit : (x : ℕ) → flag (eqb (x % 2) 1) ≡ x % 2
flag-bit x = below_two (x % 2) (omega arith)
