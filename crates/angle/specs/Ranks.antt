-- Which angles have a rank that need not be held.
use Rattle.std.specs.Prelude.{◌≡◌, refl, Bool, true, false, cond, ℤ, pos, negsuc, nat_abs}
use Rattle.std.proofs.Common.{ap, sym, ◌∙◌, arith, ltb-false, le-ltb, SFits}
use Rattle.std.specs.Int.Signed.{lt_z}
use Rattle.std.specs.Int.{w8}
use Rattle.angle.specs.Angle.{nearest, nearest_rank, held, rank_of}
use Rattle.angle.specs.Sign.{sided, own_size, rank_size}

-- what is held is a number of eight bits,
held_fits : (z : ℤ) → SFits w8 (held z)
unfolding held
held_fits z = go z (lt_z z (negsuc 127)) (lt_z (pos 127) z) refl refl
  where
    go : (z : ℤ) (s t : Bool) → lt_z z (negsuc 127) ≡ s → lt_z (pos 127) z ≡ t → SFits w8 (cond s (negsuc 127) (cond t (pos 127) z))
    go z true t e f = record { sfits = omega arith }
    go z false true e f = record { sfits = omega arith }
    go (pos n) false false e f = record { sfits = omega (arith, ltb-false 127 n f) }
    go (negsuc n) false false e f = record { sfits = omega (arith, ltb-false 127 n e) }

-- and such a number is held as it is
held_in : (z : ℤ) → SFits w8 z → held z ≡ z
unfolding held
held_in (pos n) h = rw (le-ltb 127 n (omega (arith, h.sfits)))
held_in (negsuc n) h = rw (le-ltb 127 n (omega (arith, h.sfits)))

module _ (n : ℤ) where
  -- the rank of a scaled angle fits an i8,
  pub rank_fits_lem : SFits w8 (rank_of n)
  unfolding rank_of
  rank_fits_lem = held_fits (nearest_rank n)

  -- and it is the nearest whole number where that fits one
  pub rank_exact : SFits w8 (nearest_rank n) → rank_of n ≡ nearest_rank n
  unfolding rank_of
  rank_exact h = held_in (nearest_rank n) h

  -- which lies on the angle's side of zero, and has the nearest size
  pub nearest-sided : nearest_rank n ≡ sided n (nearest (nat_abs n))
  nearest-sided = ap nearest_rank (sym (own_size n)) ∙ rank_size n (nat_abs n)
