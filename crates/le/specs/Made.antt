-- Lists that are made of bytes.
use Rattle.std.specs.Prelude.{ℕ, zero, suc, ◌<◌, List, [], ◌∷◌, ◌++◌, replicate, set}
use Rattle.std.proofs.Common.{arith}
use Rattle.le.specs.Le.{bytes_from, bytes, Bytes}

pub none_made : Bytes []
none_made k = omega arith

pub one_made : (x : ℕ) (s : List ℕ) → x < 256 → Bytes s → Bytes (x ∷ s)
one_made x s h all zero = h
one_made x s h all (suc k) = all k

pub both_made : (a b : List ℕ) → Bytes a → Bytes b → Bytes (a ++ b)
both_made [] b h l = l
both_made (x ∷ a) b h l = one_made x (a ++ b) (h 0) (both_made a b (λ k. h (suc k)) l)

pub zeros_made : (n : ℕ) → Bytes (replicate n 0)
zeros_made zero = none_made
zeros_made (suc n) = one_made 0 (replicate n 0) (omega arith) (zeros_made n)

-- the bytes of a number
from : (k w x : ℕ) → Bytes (bytes_from k w x)
from k zero x = none_made
from k (suc w) x = one_made _ (bytes_from (suc k) w x) (omega arith) (from (suc k) w x)

pub number_made : (w x : ℕ) → Bytes (bytes w x)
number_made zero x = none_made
number_made (suc w) x = one_made _ (bytes_from 1 w x) (omega arith) (from 1 w x)

-- bytes stored into bytes
pub set_made : (s : List ℕ) (i x : ℕ) → x < 256 → Bytes s → Bytes (set s i x)
set_made [] i x h all = all
set_made (y ∷ s) zero x h all = one_made x s h (λ k. all (suc k))
set_made (y ∷ s) (suc i) x h all = one_made y (set s i x) (all 0) (set_made s i x h (λ k. all (suc k)))
