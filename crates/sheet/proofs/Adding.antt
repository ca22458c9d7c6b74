-- One total more: a turn of the loop that adds a list to another.
use Prim.Native.Nat.{ℕ, ◌+◌, ◌^◌, ◌≤◌, ◌<◌}
use mathlib.Core.Path.{◌≡◌, ap, sym, ◌∙◌}
use mathlib.Core.Bool.{true, and-eq-true_iff}
use mathlib.Core.List.{List, [], ◌++◌, append-nil}
use native.Mathlib.Omega.{arith}
use lib.ListN.{length, take, drop, set, get_or, length-set}
use lib.Seq.{drop-set-lt, take_all}
use Rattle.sheet.specs.Sheet.{fits_in, all_fit, sums}
use Rattle.sheet.specs.Laws.{fits_says, all_fit_step, sums_turn, sums-end}

module _ (a₀ b : List ℕ) where
  -- before turn i: what is left fits, and added to what is done makes the whole
  pub record Adding (a : List ℕ) (i : ℕ) : Type 0 where
    pub kept : length a ≡ length a₀
    pub left : all_fit (drop i a) (drop i b) ≡ true
    pub whole : take i a ++ sums (drop i a) (drop i b) ≡ sums a₀ b

  module _ {a : List ℕ} {i : ℕ} (inv : Adding a i) where
    module _ (in_a : i < length a) (in_b : i < length b) where
      parts : (fits_in (get_or a i 0) (get_or b i 0) ≡ true) × (all_fit (drop (i + 1) a) (drop (i + 1) b) ≡ true)
      parts = (and-eq-true_iff _ _).0 (sym (all_fit_step a b i in_a in_b) ∙ inv.left)

      pub fits-here : get_or a i 0 + get_or b i 0 < 2 ^ 64
      fits-here = fits_says (get_or a i 0) (get_or b i 0) parts.0

      pub step : Adding (set a i (get_or a i 0 + get_or b i 0)) (i + 1)
      step =
          let v = get_or a i 0 + get_or b i 0 in
          record {
            kept = length-set a i v ∙ inv.kept;
            left = ap (λ (l : List ℕ). all_fit l (drop (i + 1) b)) (drop-set-lt (i + 1) a i v (omega arith)) ∙ parts.1;
            whole = sums_turn a b i in_a in_b ∙ inv.whole;
          }

    pub done : length a ≤ i → a ≡ sums a₀ b
    done h =
        let all : take i a ++ sums (drop i a) (drop i b) ≡ a ++ [] = λ j. take_all i a h j ++ sums-end a b i h j in
        sym (all ∙ append-nil a) ∙ inv.whole
