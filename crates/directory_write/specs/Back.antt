-- Laws of what a write answers and leaves, and that it reads back.
use Rattle.std.specs.Prelude.{ℕ, zero, suc, ◌+◌, ◌*◌, ◌-◌, ◌≤◌, ◌<◌, ◌≡◌, refl, Bool, true, false, ◌||◌, List, [], ◌∷◌, ◌++◌, ◌⊎◌, ltb, eqb, length, take, drop, get_or, Result, Ok, Err}
use Rattle.std.proofs.Math.Path.{ap}
use Rattle.std.proofs.Common.{sym, ◌∙◌, inl, inr, arith, ltb-true, ltb-false, length-append, length-take-le}
use Rattle.std.proofs.Math.Seq.{get_or-append-add, get_or-take}
use Rattle.refusal.specs.declared.Refusal.{Refusal}
use Rattle.le.specs.Le.{num, bytes}
use Rattle.le.specs.Laws.{num-bytes}
use Rattle.le.specs.Part.{num-drop}
use Rattle.directory.specs.Directory.{count_of, key_of, entry_of, rising_at, every, place_of}
use Rattle.directory.specs.Laws.{every-passes, one_fails, decided, entry_is}
use Rattle.directory.specs.Order.{Sought, there, nowhere, placed, only}
use Rattle.directory_write.specs.Written.{given_count, given_key, in_front, number_bytes, directory_bytes, written_of}
use Rattle.directory_write.specs.Exact.{Rising, Falling, wanted, RefusedFor, not_rising, too_many, no_room, WrittenFor, given_entry}
use Rattle.directory_write.specs.Laws.{length_directory, then_falling, then_many, then_short, then_written}

-- numbers of 16 bits
abbrev pub Words : List ℕ → Type 0
Words xs = (i : ℕ) → get_or xs i 0 < 65536

-- are read where they stand
number_at : (xs rest : List ℕ) → Words xs → (i : ℕ) → i < length xs → num 2 (2 * i) (number_bytes xs ++ rest) ≡ get_or xs i 0
unfolding number_bytes
number_at [] rest small i h = absurd (omega arith)
number_at (x ∷ xs) rest small zero h = num-bytes 2 0 ((bytes 2 x ++ number_bytes xs) ++ rest) x (omega (arith, small 0)) refl
number_at (x ∷ xs) rest small (suc i) h =
    let next : 2 * suc i ≡ 2 + 2 * i = omega arith in
    rw next (sym (num-drop 2 (2 * i) 2 ((bytes 2 x ++ number_bytes xs) ++ rest)) ∙ number_at xs rest (λ j. small (suc j)) i (omega arith))

words_take : (n : ℕ) (xs : List ℕ) → Words xs → Words (take n xs)
words_take zero xs small i = omega arith
words_take (suc n) [] small i = small i
words_take (suc n) (x ∷ xs) small zero = small 0
words_take (suc n) (x ∷ xs) small (suc i) = words_take n xs (λ j. small (suc j)) i

-- so a directory that was written, whatever follows it, reads back
module _ (ks rest : List ℕ) (small : Words ks) (few : given_count ks ≤ 8190) where
  abbrev numbers : List ℕ
  numbers = in_front ks ++ take (4 * given_count ks) ks

  abbrev after : List ℕ
  after = directory_bytes ks ++ rest

  words : Words numbers
  words zero = omega arith
  words (suc zero) = omega arith
  words (suc (suc zero)) = omega arith
  words (suc (suc (suc zero))) = omega arith
  words (suc (suc (suc (suc i)))) = words_take (4 * given_count ks) ks small i

  long : length (take (4 * given_count ks) ks) ≡ 4 * given_count ks
  long = length-take-le (4 * given_count ks) ks (omega arith)

  pub count_back : count_of after ≡ given_count ks
  unfolding directory_bytes
  count_back = number_at numbers rest words 3 (omega (arith, long))

  given_at : (p i : ℕ) → p ≡ 2 * (4 + i) → i < 4 * given_count ks → num 2 p after ≡ get_or ks i 0
  unfolding directory_bytes
  given_at p i e h =
      ap (λ (q : ℕ). num 2 q (number_bytes numbers ++ rest)) e
      ∙ number_at numbers rest words (4 + i) (omega (arith, long))
      ∙ get_or-append-add (in_front ks) (take (4 * given_count ks) ks) i 0
      ∙ get_or-take (4 * given_count ks) ks i 0 h

  pub entry_back : (k : ℕ) → k < given_count ks → entry_of after k ≡ given_entry ks k
  entry_back k h =
      let key = given_at (8 + 8 * k) (4 * k) (omega arith) (omega arith) in
      let location = given_at (8 + 8 * k + 2) (4 * k + 1) (omega arith) (omega arith) in
      let count = given_at (8 + 8 * k + 4) (4 * k + 2) (omega arith) (omega arith) in
      let index = given_at (8 + 8 * k + 6) (4 * k + 3) (omega arith) (omega arith) in
      entry_is after k ∙ (λ i. record { key = key i; location = location i; count = count i; index = index i })

  pub key_back : (k : ℕ) → k < given_count ks → key_of after k ≡ given_key ks k
  unfolding given_key
  key_back k h = given_at (8 + 8 * k) (4 * k) (omega arith) (omega arith)

  pub long_back : 8 + 8 * count_of after ≤ length after
  long_back = simp length-append (omega (arith, count_back, length_directory ks))

  module _ (rising : Rising ks) where
    pub rising_back : (k : ℕ) → k < given_count ks → rising_at (key_of after) k ≡ true
    rising_back k h = (λ i. eqb k 0 || ltb (key_back (k - 1) (omega arith) i) (key_back k h i)) ∙ rising k h

    -- each key is found at its own place
    pub place_back : (k : ℕ) → k < given_count ks → place_of (key_of after) (given_key ks k) (count_of after) ≡ k
    place_back k h = ap (place_of (key_of after) (given_key ks k)) count_back ∙ go (placed (key_of after) (given_key ks k) (given_count ks))
      where
        go : {p : ℕ} → Sought (key_of after) (given_key ks k) 0 (given_count ks) p → p ≡ k
        go {p} (there f l e) = only (key_of after) (given_count ks) rising_back p k (omega arith) h (e ∙ sym (key_back k h))
        go (nowhere e none) = absurd (none k (omega arith) (omega arith) (key_back k h))

-- what a write answers and leaves, by what it is refused for, or none
module _ (ks d : List ℕ) where
  rises : Rising ks → every (rising_at (given_key ks)) (given_count ks) ≡ true
  rises h = every-passes (rising_at (given_key ks)) (given_count ks) h

  pub then_refused : {why : Refusal} → RefusedFor ks (length d) why → written_of ks d ≡ (Err why, d)
  then_refused (not_rising (k, h, e)) = then_falling ks d (one_fails (rising_at (given_key ks)) (given_count ks) k h e)
  then_refused (too_many r h) = then_many ks d (rises r) h
  then_refused (no_room r few h) = then_short ks d (rises r) few h

  pub then_put : WrittenFor ks (length d) → written_of ks d ≡ (Ok (wanted ks), directory_bytes ks ++ drop (wanted ks) d)
  then_put (r, few, h) = then_written ks d (rises r) few h

  pub data Outcome : Type 0 where
    refused : {why : Refusal} → RefusedFor ks (length d) why → Outcome
    written : WrittenFor ks (length d) → Outcome

  pub outcome : Outcome
  outcome = by_order (decided (rising_at (given_key ks)) (given_count ks))
    where
      by_room : Rising ks → given_count ks ≤ 8190 → (b : Bool) → ltb (length d) (wanted ks) ≡ b → Outcome
      by_room r few true e = refused (no_room r few (ltb-true _ _ e))
      by_room r few false e = written (r, few, ltb-false _ _ e)

      by_count : Rising ks → (b : Bool) → ltb 8190 (given_count ks) ≡ b → Outcome
      by_count r true e = refused (too_many r (ltb-true _ _ e))
      by_count r false e = by_room r (ltb-false _ _ e) (ltb (length d) (wanted ks)) refl

      by_order : Rising ks ⊎ Falling ks → Outcome
      by_order (inl r) = by_count r (ltb 8190 (given_count ks)) refl
      by_order (inr f) = refused (not_rising f)

  pub was-refused : {why : Refusal} → (written_of ks d).0 ≡ Err why → RefusedFor ks (length d) why
  was-refused {why} e = go outcome
    where
      go : Outcome → RefusedFor ks (length d) why
      go (refused {why = r} h) =
          let told : (written_of ks d).0 ≡ Err r = ap (λ (w : Result ℕ Refusal × List ℕ). w.0) (then_refused h) in
          let same : r ≡ why = cc in
          rw (← same) h
      go (written h) =
          let told : (written_of ks d).0 ≡ Ok (wanted ks) = ap (λ (w : Result ℕ Refusal × List ℕ). w.0) (then_put h) in
          let z : ◌≡◌ {A = ℕ} 0 1 = cc in
          absurd (omega arith)

  pub was-written : {n : ℕ} → (written_of ks d).0 ≡ Ok n → WrittenFor ks (length d) × (n ≡ wanted ks)
  was-written {n} e = go outcome
    where
      go : Outcome → WrittenFor ks (length d) × (n ≡ wanted ks)
      go (refused {why = r} h) =
          let told : (written_of ks d).0 ≡ Err r = ap (λ (w : Result ℕ Refusal × List ℕ). w.0) (then_refused h) in
          let z : ◌≡◌ {A = ℕ} 0 1 = cc in
          absurd (omega arith)
      go (written h) = let told : (written_of ks d).0 ≡ Ok (wanted ks) = ap (λ (w : Result ℕ Refusal × List ℕ). w.0) (then_put h) in (h, cc)
