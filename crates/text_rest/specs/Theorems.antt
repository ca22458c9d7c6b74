-- What is promised of a text field.
use Rattle.std.specs.Prelude.{ℕ, zero, suc, ◌<◌, ◌≡◌, refl, Bool, true, false, cond, List, [], ◌∷◌, ◌↔◌, eqb, length, get_or}
use Rattle.std.proofs.Common.{arith, eqb-true, eq-eqb, ne_eqb}
use Rattle.std.proofs.lemmas.Bool.{eqb-false}
use Rattle.text_rest.specs.Rest.{rest_after, rest_of}

-- a byte of t that is not zero, at place j
pub record Some (t : List ℕ) (j : ℕ) : Type 0 where
  pub within : j < length t
  pub other : get_or t j 0 ≡ 0 → ⊥

-- "bytes after their first zero that aren't zero": a zero, and after it a byte that is none
pub record Untidy (t : List ℕ) : Type 0 where
  pub ended : ℕ
  pub next : ℕ
  pub after : ended < next
  pub zero-there : get_or t ended 0 ≡ 0
  pub some : Some t next

some_next : (b : ℕ) (t : List ℕ) {j : ℕ} → Some t j → Some (b ∷ t) (suc j)
some_next b t x = record { within = omega (arith, x.within); other = x.other }

-- after a zero that was met: some byte is not zero
met : (t : List ℕ) → rest_after true t ≡ true → (j : ℕ) × Some t j
unfolding rest_after
met [] e = absurd (let z : ◌≡◌ {A = ℕ} 0 1 = cc in omega arith)
met (b ∷ t) e = go (eqb b 0) refl (met t) e
  where
    go : (x : Bool) → eqb b 0 ≡ x → (rest_after true t ≡ true → (j : ℕ) × Some t j) → cond x (rest_after true t) true ≡ true → (j : ℕ) × Some (b ∷ t) j
    go true p later h = let (j, x) = later h in (suc j, some_next b t x)
    go false p later h = (0, record { within = omega arith; other = eqb-false b 0 p })

meets : (t : List ℕ) (j : ℕ) → Some t j → rest_after true t ≡ true
unfolding rest_after
meets [] j x = absurd (omega (arith, x.within))
meets (b ∷ t) zero x = rw (ne_eqb b 0 x.other)
meets (b ∷ t) (suc j) x = go (eqb b 0) (meets t j (record { within = omega (arith, x.within); other = x.other }))
  where
    go : (y : Bool) → rest_after true t ≡ true → cond y (rest_after true t) true ≡ true
    go true h = h
    go false h = refl

tidy_not : (t : List ℕ) → rest_after false t ≡ true → Untidy t
unfolding rest_after
tidy_not [] e = absurd (let z : ◌≡◌ {A = ℕ} 0 1 = cc in omega arith)
tidy_not (b ∷ t) e = go (eqb b 0) refl (tidy_not t) e
  where
    go : (x : Bool) → eqb b 0 ≡ x → (rest_after false t ≡ true → Untidy t) → cond x (rest_after true t) (rest_after false t) ≡ true → Untidy (b ∷ t)
    go true p later h =
        let (j, x) = met t h in
        record { ended = 0; next = suc j; after = omega arith; zero-there = eqb-true b 0 p; some = some_next b t x }
    go false p later h =
        let u = later h in
        record { ended = suc u.ended; next = suc u.next; after = omega (arith, u.after); zero-there = u.zero-there; some = some_next b t u.some }

not_tidy : (t : List ℕ) (i j : ℕ) → i < j → get_or t i 0 ≡ 0 → Some t j → rest_after false t ≡ true
unfolding rest_after
not_tidy [] i j h z x = absurd (omega (arith, x.within))
not_tidy (b ∷ t) i zero h z x = absurd (omega arith)
not_tidy (b ∷ t) zero (suc j) h z x = rw (eq-eqb b 0 z) (meets t j (record { within = omega (arith, x.within); other = x.other }))
not_tidy (b ∷ t) (suc i) (suc j) h z x = let w : Some t j = record { within = omega (arith, x.within); other = x.other } in go (eqb b 0) (meets t j w) (not_tidy t i j (omega arith) z w)
  where
    go : (y : Bool) → rest_after true t ≡ true → rest_after false t ≡ true → cond y (rest_after true t) (rest_after false t) ≡ true
    go true met-it later = met-it
    go false met-it later = later

-- It is told exactly of these.
pub rest_exactly : (t : List ℕ) → (rest_of t ≡ true) ↔ Untidy t
unfolding rest_of
rest_exactly t = (tidy_not t, λ u. not_tidy t u.ended u.next u.after u.zero-there u.some)
