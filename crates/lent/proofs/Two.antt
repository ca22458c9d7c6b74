-- Two pieces, one after the other, are their sum at once.
use mathlib.Core.Path.{◌≡◌, refl, ap, sym, ◌∙◌}
use mathlib.Core.List.{List, ◌++◌}
use Prim.Native.Nat.{ℕ, ◌+◌, ◌-◌, ◌≤◌, ◌<◌}
use native.Mathlib.Omega.{arith}
use lib.ListN.{length, take, drop, length-append}
use lib.Seq.{sets}
use Rattle.refusal.specs.declared.Refusal.TheVariants.{NoRoom}
use Rattle.std.specs.Prelude.{Result, Ok, Err}
use Rattle.refusal.specs.declared.Refusal.{Refusal}
use Rattle.lent.specs.Front.{front_of}
use Rattle.lent.specs.Laws.{front, no_front, whole, then_tail}

-- where there is no room
pub short : (h t d : List ℕ) → length d < length h + length t → (Err (NoRoom (length h + length t)), d) ≡ front_of (h ++ t) d
short h t d l = let n : length (h ++ t) ≡ length h + length t = length-append h t in rw (← n) (sym (no_front (h ++ t) d (omega arith)))

-- where there is: e is what the first write leaves, and ys what the second leaves of the rest
pub both : (d h t e ys : List ℕ) (r r' : Result ℕ Refusal) → length h + length t ≤ length d → (r, e) ≡ front_of h d → (r', ys) ≡ front_of t (take (length e - length h) (drop (length h) e)) → (Ok (length h + length t), take (length h) e ++ (ys ++ drop (length e - length h) (drop (length h) e))) ≡ front_of (h ++ t) d
both d h t e ys r r' l p q =
    let lh : length h ≤ length d = omega arith in
    let e_is : e ≡ sets d 0 h = ap (λ (x : Result ℕ Refusal × List ℕ). x.1) (p ∙ front h d lh) ∙ sym (whole d h (length h) refl lh) in
    let n : length (h ++ t) ≡ length h + length t = length-append h t in
    rw (then_tail d h t e ys (length h) r' refl l e_is q) (sym (front (h ++ t) d (omega arith) ∙ rw n))
