-- Laws of names: a field holds one exactly when the name stands at its front and zeros fill the rest.
use Rattle.std.specs.Prelude.{ℕ, ◌-◌, ◌≡◌, Bool, ◌&&◌, eqb}
use Rattle.std.specs.List.{list_all}
use Rattle.std.proofs.Math.Path.{refl, ap}
use Rattle.std.proofs.Common.{◌∙◌, eq-eqb}
use Rattle.std.proofs.Math.Bool.{true, false}
use mathlib.Core.List.{List, [], ◌∷◌, ◌++◌}
use native.Mathlib.Omega.{arith}
use Rattle.std.proofs.Math.ListN.{length, replicate, length-append}
use Rattle.header.specs.Judged.{eq_list}
use Rattle.header.specs.Laws.{eq_list-true}
use Rattle.names.specs.Names.{filled, is_named}

-- a front that two lists share does not tell them apart
same_front : (xs ys zs : List ℕ) → eq_list (xs ++ ys) (xs ++ zs) ≡ eq_list ys zs
unfolding eq_list
same_front [] ys zs = refl
same_front (x ∷ xs) ys zs = rw (eq-eqb x x refl) (same_front xs ys zs)

-- zeros are what as many zeros are
zeros : (ys : List ℕ) → eq_list ys (replicate (length ys) 0) ≡ list_all (λ b. eqb b 0) ys
unfolding eq_list
zeros [] = refl
zeros (y ∷ ys) = ap (λ (b : Bool). eqb y 0 && b) (zeros ys)

-- behind the name each byte is to be 0
pub prefixed : (name rest : List ℕ) → is_named (name ++ rest) name ≡ list_all (λ b. eqb b 0) rest
unfolding is_named filled
prefixed name rest =
    let left : length (name ++ rest) - length name ≡ length rest = omega (arith, length-append name rest) in
    rw left (same_front name rest (replicate (length rest) 0) ∙ zeros rest)

-- and a field that does not start with the name holds it not
pub not_prefixed : (field name : List ℕ) → ((rest : List ℕ) → field ≡ name ++ rest → ⊥) → is_named field name ≡ false
unfolding is_named filled
not_prefixed field name other = go (eq_list field (name ++ replicate (length field - length name) 0)) refl
  where
    go : (b : Bool) → eq_list field (name ++ replicate (length field - length name) 0) ≡ b → b ≡ false
    go true e = absurd (other (replicate (length field - length name) 0) (eq_list-true field (name ++ replicate (length field - length name) 0) e))
    go false e = refl
