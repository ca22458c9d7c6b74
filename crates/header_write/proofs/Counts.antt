-- A loop that stores n numbers of w bytes each, one after the other from `at` on: the counts by return, old and new.
use Prim.Native.Nat.{ℕ, suc, ◌+◌, ◌*◌, ◌≤◌, ◌<◌}
use mathlib.Core.Path.{◌≡◌, ap, sym, ◌∙◌}
use mathlib.Core.List.{List}
use native.Mathlib.Omega.{arith}
use native.Mathlib.Nat.{mul-add}
use native.Mathlib.Numerals.{add-one}
use lib.ListN.{length, get_or, drop, drop_of_length-le}
use lib.Seq.{sets, length-sets, drop-cons}
use Rattle.le.specs.Le.{bytes}
use Rattle.le.specs.Laws.{length-bytes}
use Rattle.lent.specs.Laws.{sets_append}
use Rattle.fields.specs.Table.{joined}

module _ (n at w : ℕ) where
  -- before turn i: what is left to store, stored into d, makes what is to be made of d₀
  abbrev pub Left : List ℕ → List ℕ → List ℕ → ℕ → Type 0
  Left d₀ xs d i = (i ≤ n) × (length d ≡ length d₀) × (sets d (at + w * i) (joined (bytes w) (drop i xs)) ≡ sets d₀ at (joined (bytes w) xs))

  module _ (d₀ d xs : List ℕ) (i : ℕ) (l : length xs ≡ n) (left : Left d₀ xs d i) where
    -- a turn stores the number i
    pub turn : (e : List ℕ) → i < n → e ≡ sets d (at + w * i) (bytes w (get_or xs i 0)) → Left d₀ xs e (i + 1)
    turn e h s =
        let next : at + w * i + w ≡ at + w * (i + 1) = omega (arith, mul-add w i 1) in
        let more : i < length xs = omega arith in
        let split = sets_append d (bytes w (get_or xs i 0)) (joined (bytes w) (drop (suc i) xs)) (at + w * i) in (
          omega arith,
          ap length s ∙ length-sets d (at + w * i) (bytes w (get_or xs i 0)) ∙ left.1,
          rw (s, ← next, add-one) (sym (split ∙ rw length-bytes) ∙ (rw (drop-cons xs i 0) at left.2)),
        )

    -- after the last there is nothing left
    pub done : n ≤ i → d ≡ sets d₀ at (joined (bytes w) xs)
    done h =
        let over : length xs ≤ i = omega arith in
        rw (drop_of_length-le xs over) at left.2
