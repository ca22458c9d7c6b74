-- Laws of the bytes after a text's end, one byte at a time.
use Rattle.std.specs.Prelude.{ℕ, ◌+◌, ◌≤◌, ◌<◌, ◌≡◌, Bool, true, false, cond, List, length, drop, get_or}
use Rattle.std.proofs.Common.{add-one, drop_of_length-le, drop-cons}
use borrow.Author.Tests.{eq-eqb, ne_eqb}
use Rattle.text_rest.specs.Rest.{rest_after}

module _ (ended : Bool) (t : List ℕ) (i : ℕ) where
  -- a zero ends the text; another byte after the end is what is looked for, and before the end it is passed
  pub at_zero : i < length t → get_or t i 0 ≡ 0 → rest_after ended (drop i t) ≡ rest_after true (drop (i + 1) t)
  unfolding rest_after
  at_zero h e = rw (drop-cons t i 0 h, eq-eqb _ _ e, add-one)

  pub at_other : i < length t → (get_or t i 0 ≡ 0 → ⊥) → rest_after ended (drop i t) ≡ cond ended true (rest_after ended (drop (i + 1) t))
  unfolding rest_after
  at_other h e = rw (drop-cons t i 0 h, ne_eqb _ _ e, add-one)

  pub at-end : length t ≤ i → rest_after ended (drop i t) ≡ false
  unfolding rest_after
  at-end h = rw (drop_of_length-le t h)
