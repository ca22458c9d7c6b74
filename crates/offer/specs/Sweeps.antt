-- The parts of a sweep, and its counts by return one by one.
use Rattle.std.specs.Prelude.{ℕ, zero, suc, ◌+◌, ◌*◌, ◌^◌, ◌<◌, ◌≡◌, List, [], ◌∷◌, get_or}
use Rattle.std.proofs.Math.Path.{refl}
use Rattle.std.proofs.Common.{arith}
use Rattle.header.specs.declared.Header.{Header}
use Rattle.offer.specs.declared.Sweep.{Sweep}
use Rattle.offer.specs.Offer.{count_in, record_length, end_in, sweep_of}
use Rattle.offer.specs.Laws.{CountsFit}

module _ (h : Header) (records : List ℕ) (n : ℕ) where
  pub sweep-at : (sweep_of h records n).at ≡ end_in h
  unfolding sweep_of
  sweep-at = refl

  pub sweep-bytes : (sweep_of h records n).bytes ≡ n * record_length h
  unfolding sweep_of
  sweep-bytes = refl

  pub sweep-points : (sweep_of h records n).points ≡ count_in h + n
  unfolding sweep_of
  sweep-points = refl

-- where its counts fit
pub by_return_fit : (w : Sweep) → CountsFit w → (j : ℕ) → get_or (w.first ∷ w.second ∷ w.third ∷ w.fourth ∷ w.fifth ∷ []) j 0 < 2 ^ 32
by_return_fit w f zero = f.first
by_return_fit w f (suc zero) = f.second
by_return_fit w f (suc (suc zero)) = f.third
by_return_fit w f (suc (suc (suc zero))) = f.fourth
by_return_fit w f (suc (suc (suc (suc zero)))) = f.fifth
by_return_fit w f (suc (suc (suc (suc (suc j))))) = omega arith
