-- Laws of counts: each list has its size, and no count is over the number counted.
use Prim.Native.Nat.{ℕ, zero, suc, ◌+◌, ◌≤◌, ◌<◌}
use Rattle.std.specs.Prelude.{◌≡◌, Bool, true, false, List, eqb, length, get_or, replicate}
use Rattle.std.proofs.Math.Path.{refl}
use Rattle.std.proofs.Common.{◌∙◌, arith, eqb-true, get_or-set_same, get_or-set_other}
use Rattle.std.proofs.Math.Numerals.{add-one}
use Rattle.std.proofs.lemmas.Bool.{eqb-false}
use Rattle.std.proofs.Math.ListN.{length-set, length-replicate}
use Rattle.std.proofs.lemmas.List.{get_or-replicate}
use Rattle.sheet_count.specs.Count.{one_more, counts_of}

module _ (size : ℕ) (rule : ℕ → ℕ) where
  pub none-counted : counts_of size rule 0 ≡ replicate size 0
  unfolding counts_of
  none-counted = refl

  pub one-counted : (n : ℕ) → counts_of size rule (n + 1) ≡ one_more (counts_of size rule n) (rule n)
  unfolding counts_of
  one-counted n = rw add-one

  pub length_counts : (n : ℕ) → length (counts_of size rule n) ≡ size
  unfolding counts_of
  length_counts zero = length-replicate size 0
  length_counts (suc n) = length-set (counts_of size rule n) (rule n) _ ∙ length_counts n

-- one more at a place below the length; every other is as it was
pub at_place : (l : List ℕ) (k : ℕ) → k < length l → get_or (one_more l k) k 0 ≡ get_or l k 0 + 1
at_place l k h = get_or-set_same l k (get_or l k 0 + 1) 0 h

pub elsewhere : (l : List ℕ) (k j : ℕ) → (j ≡ k → ⊥) → get_or (one_more l k) j 0 ≡ get_or l j 0
elsewhere l k j h = get_or-set_other l k j (get_or l k 0 + 1) 0 h

pub most-counted : (size : ℕ) (rule : ℕ → ℕ) (n k : ℕ) → k < size → get_or (counts_of size rule n) k 0 ≤ n
unfolding counts_of
most-counted size rule zero k h = omega (arith, get_or-replicate {A = ℕ} size k 0 0 h)
most-counted size rule (suc n) k h = go (eqb k (rule n)) refl (most-counted size rule n k h)
  where
    go : (b : Bool) → eqb k (rule n) ≡ b → get_or (counts_of size rule n) k 0 ≤ n → get_or (one_more (counts_of size rule n) (rule n)) k 0 ≤ suc n
    go true e before =
        let same : k ≡ rule n = eqb-true k (rule n) e in
        rw same (omega (arith, at_place (counts_of size rule n) (rule n) (omega (arith, length_counts size rule n)), rw same at before))
    go false e before = omega (arith, elsewhere (counts_of size rule n) (rule n) k (eqb-false k (rule n) e))
