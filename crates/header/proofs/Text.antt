-- Bytes compared.
use Prim.Native.Nat.{ℕ}
use mathlib.Core.Path.{◌≡◌, refl, sym, ap, ◌∙◌}
use mathlib.Core.Bool.{Bool, true, false}
use mathlib.Core.List.{List}
use Rattle.header.specs.Judged.{eq_list}
use Rattle.header.specs.Laws.{eq_list-refl, eq_list-true}

-- a test that tells whether two lists are the same is `eq_list`
pub decided : (b : Bool) (l m : List ℕ) → (b ≡ true → l ≡ m) → (l ≡ m → b ≡ true) → b ≡ eq_list l m
decided true l m p q = sym (ap (eq_list l) (sym (p refl)) ∙ eq_list-refl l)
decided false l m p q = go (eq_list l m) refl
  where
    go : (t : Bool) → eq_list l m ≡ t → false ≡ eq_list l m
    go true e = q (eq_list-true l m e) ∙ sym e
    go false e = sym e
