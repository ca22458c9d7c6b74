-- Laws of short lists, number by number.
use Rattle.std.specs.List.{list_all}
use Rattle.std.specs.Prelude.{ℕ, zero, suc, ◌+◌, ◌≤◌, ◌<◌, ◌≡◌, refl, Bool, true, List, [], ◌∷◌, length, get_or, take, drop}
use Rattle.std.proofs.Common.{ap, sym, ◌∙◌, arith, length-drop, drop-cons, take_all}
use Rattle.std.proofs.Math.Bool.{and-eq-true_iff}

-- n numbers of a list from the one after k others on
abbrev pub numbers : ℕ → ℕ → List ℕ → List ℕ
numbers zero k xs = []
numbers (suc n) k xs = get_or xs k 0 ∷ numbers n (suc k) xs

-- are that part of it
pub numbers_are : (n k : ℕ) (xs : List ℕ) → k + n ≤ length xs → numbers n k xs ≡ take n (drop k xs)
numbers_are zero k xs h = refl
numbers_are (suc n) k xs h =
    ap (λ (l : List ℕ). get_or xs k 0 ∷ l) (numbers_are n (suc k) xs (omega arith)) ∙ sym (ap (take (suc n)) (drop-cons xs k 0 (omega arith)))

-- all of a list
pub all-numbers : (n : ℕ) (xs : List ℕ) → length xs ≡ n → numbers n 0 xs ≡ xs
all-numbers n xs h = numbers_are n 0 xs (omega arith) ∙ take_all n xs (omega arith)

-- and the last of it
pub last_numbers : (n k : ℕ) (xs : List ℕ) → length xs ≡ k + n → numbers n k xs ≡ drop k xs
last_numbers n k xs h = numbers_are n k xs (omega arith) ∙ take_all n (drop k xs) (simp length-drop (omega arith))

-- each number passes where every one does
pub each-passes : (test : ℕ → Bool) (xs : List ℕ) → list_all test xs ≡ true → (k : ℕ) → k < length xs → test (get_or xs k 0) ≡ true
each-passes test [] all k h = absurd (omega arith)
each-passes test (x ∷ xs) all zero h = ((and-eq-true_iff (test x) (list_all test xs)).0 all).0
each-passes test (x ∷ xs) all (suc k) h = each-passes test xs ((and-eq-true_iff (test x) (list_all test xs)).0 all).1 k (omega arith)
