-- A name byte by byte: a field holds one exactly when each of its bytes is the name's, and 0 past the name's end.
use Rattle.std.specs.Prelude.{ℕ, ◌+◌, ◌-◌, ◌≤◌, ◌<◌, ◌≡◌, Bool}
use Rattle.std.proofs.Math.Path.{refl, ap, sym}
use Rattle.std.proofs.Common.{◌∙◌, ext_get_or}
use Rattle.std.proofs.Math.Bool.{true, false}
use mathlib.Core.List.{List, ◌++◌}
use native.Mathlib.Omega.{arith}
use borrow.Author.Tests.{leb-true, leb-false}
use Rattle.std.proofs.Math.Dec.{leb}
use Rattle.std.proofs.Math.ListN.{length, get_or, replicate, length-append, length-replicate, get_or-append, get_or-eq_default}
use Rattle.std.proofs.lemmas.List.{get_or-replicate}
use Rattle.std.proofs.Math.Seq.{get_or-append-add}
use Rattle.header.specs.Judged.{eq_list}
use Rattle.header.specs.Laws.{eq_list-refl, eq_list-true}
use Rattle.names.specs.Names.{filled, is_named}

-- zeros, and what lies past them, count as 0
zero-at : (z n k : ℕ) → get_or (replicate n z) k z ≡ z
zero-at z n k = go (leb (k + 1) n) refl
  where
    go : (b : Bool) → leb (k + 1) n ≡ b → get_or (replicate n z) k z ≡ z
    go true e = get_or-replicate n k z z (omega (arith, leb-true (k + 1) n e))
    go false e = get_or-eq_default (replicate n z) z (omega (arith, leb-false (k + 1) n e, length-replicate n z))

module _ (n : ℕ) (name : List ℕ) where
  pub filled_at : (k : ℕ) → get_or (filled n name) k 0 ≡ get_or name k 0
  unfolding filled
  filled_at k = go (leb (k + 1) (length name)) refl
    where
      go : (b : Bool) → leb (k + 1) (length name) ≡ b → get_or (name ++ replicate (n - length name) 0) k 0 ≡ get_or name k 0
      go true e = get_or-append name (replicate (n - length name) 0) 0 k (omega (arith, leb-true (k + 1) (length name) e))
      go false e =
          let past : length name ≤ k = omega (arith, leb-false (k + 1) (length name) e) in
          let split : k ≡ length name + (k - length name) = omega arith in
          ap (λ (j : ℕ). get_or (name ++ replicate (n - length name) 0) j 0) split
          ∙ get_or-append-add name (replicate (n - length name) 0) (k - length name) 0
          ∙ zero-at 0 (n - length name) (k - length name)
          ∙ sym (get_or-eq_default name 0 past)

  pub length-filled : length name ≤ n → length (filled n name) ≡ n
  unfolding filled
  length-filled h = omega (arith, length-append name (replicate (n - length name) 0), length-replicate {A = ℕ} (n - length name) 0)

module _ (field name : List ℕ) where
  -- the test, and what it says
  pub named_is : is_named field name ≡ true → field ≡ filled (length field) name
  unfolding is_named
  named_is = eq_list-true field (filled (length field) name)

  pub is-named : field ≡ filled (length field) name → is_named field name ≡ true
  unfolding is_named
  is-named e = ap (λ (l : List ℕ). eq_list l (filled (length field) name)) e ∙ eq_list-refl (filled (length field) name)

  not_named : (field ≡ filled (length field) name → ⊥) → is_named field name ≡ false
  not_named differs = go (is_named field name) refl
    where
      go : (b : Bool) → is_named field name ≡ b → b ≡ false
      go true e = absurd (differs (named_is e))
      go false e = refl

  -- byte by byte
  pub named_by_bytes : length name ≤ length field → ((k : ℕ) → k < length field → get_or field k 0 ≡ get_or name k 0) → is_named field name ≡ true
  named_by_bytes h each =
      is-named (ext_get_or 0 field (filled (length field) name) (sym (length-filled (length field) name h)) (λ k l. each k l ∙ sym (filled_at (length field) name k)))

  pub other_byte : (k : ℕ) → (get_or field k 0 ≡ get_or name k 0 → ⊥) → is_named field name ≡ false
  other_byte k differs = not_named (λ e. differs (ap (λ (l : List ℕ). get_or l k 0) e ∙ filled_at (length field) name k))

  pub too_long : length field < length name → is_named field name ≡ false
  unfolding filled
  too_long h = not_named (λ e. omega (arith, ap length e, length-append name (replicate (length field - length name) 0)))
