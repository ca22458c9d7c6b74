-- Numbers of w bytes each, stored one after the other: the header's counts and bounds.
use Prim.Native.Nat.{ℕ, suc, ◌+◌, ◌≤◌, ◌<◌}
use mathlib.Core.Path.{◌≡◌, sym, ◌∙◌}
use mathlib.Core.List.{List}
use native.Mathlib.Omega.{arith}
use lib.ListN.{length, get_or, drop, drop_of_length-le}
use lib.Seq.{sets, drop-cons}
use Rattle.le.specs.Le.{bytes}
use Rattle.le.specs.Laws.{length-bytes}
use Rattle.lent.specs.Laws.{sets_append}
use Rattle.fields.specs.Table.{joined}

module _ (w : ℕ) (xs : List ℕ) where
  -- n of the numbers, from the i-th on, stored from `at` on
  pub data Run : ℕ → ℕ → ℕ → List ℕ → List ℕ → Type 0 where
    none : {i at : ℕ} {d : List ℕ} → Run 0 i at d d
    next : {n i at : ℕ} {d e r : List ℕ} → e ≡ sets d at (bytes w (get_or xs i 0)) → Run n (suc i) (at + w) e r → Run (suc n) i at d r

  -- they are the rest of the numbers, joined
  run-joined : {n i at : ℕ} {d r : List ℕ} → Run n i at d r → i + n ≡ length xs → r ≡ sets d at (joined (bytes w) (drop i xs))
  run-joined {i = i} none e =
      let over : length xs ≤ i = omega arith in
      rw (drop_of_length-le xs over)
  run-joined {i = i} {at = at} {d = d} (next q rest) e =
      let more : i < length xs = omega arith in
      run-joined rest (omega arith)
      ∙ rw q (sym (rw (drop-cons xs i 0) (sets_append d (bytes w (get_or xs i 0)) (joined (bytes w) (drop (suc i) xs)) at ∙ rw length-bytes)))

  -- all of them
  pub numbers : (n at : ℕ) (d : List ℕ) {r : List ℕ} → length xs ≡ n → Run n 0 at d r → r ≡ sets d at (joined (bytes w) xs)
  numbers n at d l run = run-joined run (omega arith)
