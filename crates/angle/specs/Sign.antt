-- A whole number by its side of zero and its size, so that what is shown of sizes holds on both sides. Assumes nothing.
use Rattle.std.specs.Prelude.{ℕ, zero, suc, ◌+◌, ◌*◌, ◌/◌, ◌<◌, ◌^◌, ◌≡◌, refl, cond, ℤ, pos, negsuc, neg_ℤ, nat_abs, ◌+ℤ◌, ◌*ℤ◌}
use Rattle.std.proofs.Common.{zero-le, sym, arith, le-ltb}
use Rattle.std.proofs.Math.Nat.{zero-div}
use Rattle.std.proofs.Math.IntN.{neg_ℤ-+ℤ}
use Rattle.std.specs.Int.Signed.{mag, lt_z, quot_z}
use Rattle.std.specs.Int.{Width}
use mir.Val.{SFits, hbits}
use Rattle.angle.specs.Angle.{nearest, nearest_rank, scaled_of}

-- the number of size n on z's side of zero
abbrev pub sided : ℤ → ℕ → ℤ
sided (pos a) n = pos n
sided (negsuc a) n = neg_ℤ (pos n)

pub by_test : (z : ℤ) (n : ℕ) → sided z n ≡ cond (lt_z z (pos 0)) (neg_ℤ (pos n)) (pos n)
by_test (pos a) n = rw (le-ltb a 0 zero-le)
by_test (negsuc a) n = refl

pub own_size : (z : ℤ) → sided z (nat_abs z) ≡ z
own_size (pos a) = refl
own_size (negsuc a) = refl

pub times : (k : ℕ) (z : ℤ) → pos k *ℤ z ≡ sided z (k * nat_abs z)
times k (pos a) = refl
times k (negsuc a) = refl

pub plus : (z : ℤ) (a b : ℕ) → sided z a +ℤ sided z b ≡ sided z (a + b)
plus (pos n) a b = refl
plus (negsuc n) a b = sym (neg_ℤ-+ℤ (pos a) (pos b))

pub over : (z : ℤ) (a b : ℕ) → quot_z (sided z a) (pos b) ≡ sided z (a / b)
over (pos n) a b = refl
over (negsuc n) zero b = rw zero-div
over (negsuc n) (suc a) b = refl

size : (z : ℤ) (n b : ℕ) → n < b → mag (sided z n) < b
size (pos a) n b h = h
size (negsuc a) zero b h = h
size (negsuc a) (suc n) b h = omega arith

pub sided-fits : (w : Width) (z : ℤ) (n : ℕ) → n < 2 ^ hbits w → SFits w (sided z n)
sided-fits w z n h = record { sfits = size z n (2 ^ hbits w) h }

pub rank_size : (z : ℤ) (n : ℕ) → nearest_rank (sided z n) ≡ sided z (nearest n)
unfolding nearest_rank nearest
rank_size (pos a) n = refl
rank_size (negsuc a) zero = refl
rank_size (negsuc a) (suc n) = refl

pub scaled-size : (z : ℤ) → scaled_of z ≡ sided z (500 * nat_abs z / 3)
unfolding scaled_of
scaled-size z = rw (times 500 z) (over z (500 * nat_abs z) 3)
