-- Laws of what is asked of every entry, and of the place of a key.
use Prim.Native.Nat.{ℕ, zero, suc, ◌+◌, ◌*◌, ◌-◌, ◌≤◌, ◌<◌}
use Rattle.std.specs.Prelude.{◌≡◌, Bool, cond, ◌&&◌, ◌||◌, List, ◌⊎◌, ltb, leb, eqb, length, Option, Ok, Err}
use Rattle.std.proofs.Math.Path.{refl}
use Rattle.std.proofs.Common.{◌∙◌, inl, inr, add-one, leb-true, leb-false, ltb-true, eq-eqb, ne_eqb, lt-ltb, le-ltb}
use Rattle.std.proofs.Math.Bool.{true, false}
use native.Mathlib.Omega.{arith}
use Rattle.refusal.specs.declared.Refusal.TheVariants.{DirectoryShort, KeysNotRising, UnknownLocation, TargetAbsent, TargetBeyond}
use Rattle.le.specs.Le.{num}
use Rattle.directory.specs.declared.Question.{Question}
use Rattle.directory.specs.declared.Question.TheVariants.{Rising, Known, There, Within}
use Rattle.directory.specs.Directory.{count_of, key_of, entry_of, rising_at, bytes_of, within, passes, every, judged_of, place_from}

module _ (f : ℕ → Bool) where
  pub every-passes : (n : ℕ) → ((k : ℕ) → k < n → f k ≡ true) → every f n ≡ true
  unfolding every
  every-passes zero h = refl
  every-passes (suc n) h = rw (every-passes n (λ k l. h k (omega arith)), h n (omega arith))

  pub one_fails : (n k : ℕ) → k < n → f k ≡ false → every f n ≡ false
  unfolding every
  one_fails zero k h e = absurd (omega arith)
  one_fails (suc n) k h e = go (leb (suc k) n) refl (λ l. one_fails n k l e)
    where
      none : (b : Bool) → (b && false) ≡ false
      none true = refl
      none false = refl

      go : (b : Bool) → leb (suc k) n ≡ b → (k < n → every f n ≡ false) → (every f n && f n) ≡ false
      go true t before = rw (before (leb-true (suc k) n t))
      go false t before = let same : k ≡ n = omega (arith, leb-false (suc k) n t) in rw (← same, e) (none (every f k))

  pub all_pass : (n : ℕ) → every f n ≡ true → (k : ℕ) → k < n → f k ≡ true
  all_pass n all k h = go (f k) refl
    where
      go : (b : Bool) → f k ≡ b → b ≡ true
      go true e = refl
      go false e = let no = one_fails n k h e in let z : ◌≡◌ {A = ℕ} 0 1 = cc in absurd (omega arith)

  -- what holds of each before k, and of k, holds of each before the next
  pub one_more : (k : ℕ) → ((j : ℕ) → j < k → f j ≡ true) → f k ≡ true → (j : ℕ) → j < k + 1 → f j ≡ true
  one_more k before e j h = go (leb (suc j) k) refl
    where
      go : (b : Bool) → leb (suc j) k ≡ b → f j ≡ true
      go true t = before j (leb-true (suc j) k t)
      go false t = let same : j ≡ k = omega (arith, leb-false (suc j) k t) in rw same e

  -- each passes, or one fails
  pub decided : (n : ℕ) → ((k : ℕ) → k < n → f k ≡ true) ⊎ ((k : ℕ) × (k < n) × (f k ≡ false))
  decided zero = inl (λ k h. absurd (omega arith))
  decided (suc n) = go (f n) refl (decided n)
    where
      go : (b : Bool) → f n ≡ b → ((k : ℕ) → k < n → f k ≡ true) ⊎ ((k : ℕ) × (k < n) × (f k ≡ false)) → ((k : ℕ) → k < suc n → f k ≡ true) ⊎ ((k : ℕ) × (k < suc n) × (f k ≡ false))
      go true e (inl all) = inl (λ k h. one_more n all e k (omega arith))
      go true e (inr (k, h, bad)) = inr (k, omega arith, bad)
      go false e rest = inr (n, omega arith, e)

-- an entry's numbers, and what is asked of it
module _ (d : List ℕ) (k : ℕ) where
  pub entry_is : entry_of d k ≡ record { key = key_of d k; location = num 2 (8 + 8 * k + 2) d; count = num 2 (8 + 8 * k + 4) d; index = num 2 (8 + 8 * k + 6) d }
  unfolding entry_of
  entry_is = refl

  module _ (doubles text : Option ℕ) where
    pub asks_rising : passes Rising doubles text d k ≡ rising_at (key_of d) k
    unfolding passes
    asks_rising = refl

    pub asks_within : passes Within doubles text d k ≡ within doubles text (entry_of d k)
    unfolding passes
    asks_within = refl

-- rising keys, by the test and by their order
module _ (key : ℕ → ℕ) (k : ℕ) where
  pub rises : key (k - 1) < key k → rising_at key k ≡ true
  rises h = go (eqb k 0)
    where
      go : (b : Bool) → (b || ltb (key (k - 1)) (key k)) ≡ true
      go true = refl
      go false = lt-ltb _ _ h

  pub falls : 0 < k → key k ≤ key (k - 1) → rising_at key k ≡ false
  falls h e = rw (ne_eqb k 0 (λ z. omega arith), le-ltb _ _ e)

  pub rising_says : 0 < k → rising_at key k ≡ true → key (k - 1) < key k
  rising_says h e = ltb-true _ _ (rw (ne_eqb k 0 (λ z. omega arith)) at e)

-- the place of a number among n: a search that has come to k
module _ (f : ℕ → ℕ) (x n k : ℕ) where
  here : (m : ℕ) → 0 < m → f k ≡ x → place_from f x k m ≡ k
  unfolding place_from
  here zero h e = absurd (omega arith)
  here (suc m) h e = rw (eq-eqb _ _ e)

  further : (m : ℕ) → 0 < m → (f k ≡ x → ⊥) → place_from f x k m ≡ place_from f x (suc k) (m - 1)
  unfolding place_from
  further zero h e = absurd (omega arith)
  further (suc m) h e = let less : suc m - 1 ≡ m = omega arith in rw (ne_eqb _ _ e, less)

  pub found : k < n → f k ≡ x → place_from f x k (n - k) ≡ k
  found h e = here (n - k) (omega arith) e

  pub passed : k < n → (f k ≡ x → ⊥) → place_from f x k (n - k) ≡ place_from f x (k + 1) (n - (k + 1))
  passed h e = let less : n - k - 1 ≡ n - suc k = omega arith in rw add-one (further (n - k) (omega arith) e ∙ rw less)

  pub ended : n ≤ k → place_from f x k (n - k) ≡ k
  unfolding place_from
  ended h = let none : n - k ≡ 0 = omega arith in rw none

-- the refusals of a directory in their order, and where there is none
module _ (d : List ℕ) (doubles text : Option ℕ) where
  abbrev pub all : Question → Bool
  all q = every (passes q doubles text d) (count_of d)

  pub then_short : length d < 8 + 8 * count_of d → judged_of d doubles text ≡ Err DirectoryShort
  unfolding judged_of
  then_short h = rw (lt-ltb _ _ h)

  module _ (long : 8 + 8 * count_of d ≤ length d) where
    pub then_falling : all Rising ≡ false → judged_of d doubles text ≡ Err KeysNotRising
    unfolding judged_of
    then_falling e = rw (le-ltb _ _ long, e)

    module _ (rising : all Rising ≡ true) where
      pub then_unknown : all Known ≡ false → judged_of d doubles text ≡ Err UnknownLocation
      unfolding judged_of
      then_unknown e = rw (le-ltb _ _ long, rising, e)

      module _ (known : all Known ≡ true) where
        pub then_absent : all There ≡ false → judged_of d doubles text ≡ Err TargetAbsent
        unfolding judged_of
        then_absent e = rw (le-ltb _ _ long, rising, known, e)

        module _ (there : all There ≡ true) where
          pub then_beyond : all Within ≡ false → judged_of d doubles text ≡ Err TargetBeyond
          unfolding judged_of
          then_beyond e = rw (le-ltb _ _ long, rising, known, there, e)

          pub then_sound : all Within ≡ true → judged_of d doubles text ≡ Ok (count_of d)
          unfolding judged_of
          then_sound e = rw (le-ltb _ _ long, rising, known, there, e)

-- the bytes of values, and of others after them
pub bytes-add : (location m n : ℕ) → bytes_of location (m + n) ≡ bytes_of location m + bytes_of location n
bytes-add location m n = go (eqb location 34736)
  where
    go : (b : Bool) → cond b (8 * (m + n)) (m + n) ≡ cond b (8 * m) m + cond b (8 * n) n
    go true = omega arith
    go false = refl
