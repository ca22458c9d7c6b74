-- What counts add up to: each is how many values it is of, and together they are all of them.
use Rattle.std.specs.Prelude.{ℕ, zero, suc, ◌+◌, ◌<◌, ◌≡◌, refl, Bool, true, false, cond, List, [], ◌∷◌, eqb, length, get_or, replicate}
use Rattle.std.proofs.Common.{ap, sym, ◌∙◌, arith, eqb-true}
use Rattle.std.proofs.lemmas.Bool.{eqb-false}
use Rattle.std.proofs.lemmas.List.{get_or-replicate}
use Rattle.sheet_count.specs.Count.{one_more, counts_of}
use Rattle.sheet_count.specs.Laws.{length_counts, at_place, elsewhere}

-- how many of the first n values of a rule are k
unfoldable pub count_of : (ℕ → ℕ) → ℕ → ℕ → ℕ
count_of rule zero k = 0
count_of rule (suc n) k = count_of rule n k + cond (eqb (rule n) k) 1 0

-- all of a list together
unfoldable pub total : List ℕ → ℕ
total [] = 0
total (x ∷ l) = x + total l

pub each-counted : (size : ℕ) (rule : ℕ → ℕ) (n k : ℕ) → k < size → get_or (counts_of size rule n) k 0 ≡ count_of rule n k
unfolding counts_of count_of
each-counted size rule zero k h = get_or-replicate {A = ℕ} size k 0 0 h
each-counted size rule (suc n) k h = go (eqb (rule n) k) refl (each-counted size rule n k h)
  where
    go : (b : Bool) → eqb (rule n) k ≡ b → get_or (counts_of size rule n) k 0 ≡ count_of rule n k → get_or (one_more (counts_of size rule n) (rule n)) k 0 ≡ count_of rule n k + cond b 1 0
    go true e before =
        let same : rule n ≡ k = eqb-true (rule n) k e in
        let inside : k < length (counts_of size rule n) = omega (arith, length_counts size rule n) in
        rw same (at_place (counts_of size rule n) k inside ∙ ap (λ (m : ℕ). m + 1) before)
    go false e before = elsewhere (counts_of size rule n) (rule n) k (λ same. eqb-false (rule n) k e (sym same)) ∙ omega arith

pub total-none : (size : ℕ) → total (replicate size 0) ≡ 0
unfolding total
total-none zero = refl
total-none (suc size) = omega (arith, total-none size)

total_more : (l : List ℕ) (k : ℕ) → k < length l → total (one_more l k) ≡ total l + 1
unfolding total
total_more [] k h = absurd (omega arith)
total_more (x ∷ l) zero h = omega arith
total_more (x ∷ l) (suc k) h = omega (arith, total_more l k (omega arith))

pub all-counted : (size : ℕ) (rule : ℕ → ℕ) (n : ℕ) → ((i : ℕ) → rule i < size) → total (counts_of size rule n) ≡ n
unfolding counts_of
all-counted size rule zero below = total-none size
all-counted size rule (suc n) below =
    total_more (counts_of size rule n) (rule n) (omega (arith, length_counts size rule n, below n)) ∙ omega (arith, all-counted size rule n below)
