use Prim.Native.Nat.{ℕ, suc, ◌+◌, ◌-◌, ◌≤◌}
use mathlib.Core.Path.{◌≡◌, refl, sym, ap, ◌∙◌}
use mathlib.Core.Bool.{Bool, true, false, not, cond, true≢false, ◌||◌}
use mathlib.Core.List.{List, [], ◌∷◌}
use native.Mathlib.Omega.{arith}
use borrow.Author.Rules.{rules}
use borrow.Author.Tests.{tests}
use lib.Dec.{eqb, ltb}
use lib.ListN.{length, take, drop, length-drop, drop_of_length-le}
use lib.Seq.{take_all}
use Rattle.std.specs.declared.option.Option.{Option}
use Rattle.std.specs.declared.option.Option.TheVariants.{None, Some}
use Rattle.std.specs.List.{list_any, prefix_len, position_or_len}
use Rattle.std.proofs.lemmas.Bool.{ltb-false}
use Rattle.std.proofs.lemmas.Iterator.{YieldsList-from_slice}
use Rattle.std.proofs.lemmas.Iterator.Search.{any_from_yields_List, position_from_yields_List}
use Rattle.text_rest.specs.Rest.{rest_after, rest_of}
use Rattle.text_rest.proofs.rest_in.Goals as goal
use Rattle.text_rest.proofs.rest_in.Goals.{After-position}

abbrev other : ℕ → Bool
other b = not (eqb b 0)

abbrev ending : ℕ → Bool
ending b = eqb b 0

-- after a zero any other byte will do
after : (t : List ℕ) → list_any other t ≡ rest_after true t
unfolding rest_after
after [] = refl
after (b ∷ t) = go (eqb b 0) (after t)
  where
    go : (x : Bool) → list_any other t ≡ rest_after true t → (not x || list_any other t) ≡ cond x (rest_after true t) true
    go true e = e
    go false e = refl

-- and the bytes before the first zero are passed
passed : (t : List ℕ) → list_any other (drop (prefix_len other t) t) ≡ rest_after false t
unfolding rest_after
passed [] = refl
passed (b ∷ t) = go (eqb b 0) refl (passed t)
  where
    go : (x : Bool) → eqb b 0 ≡ x → list_any other (drop (prefix_len other t) t) ≡ rest_after false t → list_any other (drop (prefix_len other (b ∷ t)) (b ∷ t)) ≡ cond x (rest_after true t) (rest_after false t)
    go true e later = rw (e, e) (after t)
    go false e later = let one : 1 + prefix_len other t ≡ suc (prefix_len other t) = omega arith in rw (e, one) later

place : Option ℕ → ℕ
place None = 0
place (Some i) = i

found : Option ℕ → Bool
found None = false
found (Some i) = true

-- the place that was found, and what none says
same : (x : Bool) (n i : ℕ) → Some i ≡ cond x (Some n) None → i ≡ n
unfolding place found
same true n i e = ap place e
same false n i e = absurd (true≢false (ap found e))

none : (x : Bool) (n : ℕ) → None ≡ cond x (Some n) None → x ≡ false
unfolding found
none true n e = absurd (true≢false (sym (ap found e)))
none false n e = refl

module _ (k : After-position) where
  first : k.position.result ≡ cond (ltb (position_or_len ending k.args.text.now) (length k.args.text.now)) (Some (position_or_len ending k.args.text.now)) None
  first = position_from_yields_List ending _ _ _ k.position.ensures.ran (YieldsList-from_slice k.args.text.now cc) (λ x b q h. search (rules, tests))

pub returns-in-Some : goal.returns-in-Some
unfolding rest_of
returns-in-Some c =
    let t = c.args.text.now in
    let e : c.in-Some.end ≡ prefix_len other t = same _ _ _ (sym c.in-Some.is ∙ first (goal.at.returns-in-Some c).After-position) in
    let rest = drop c.in-Some.end t in
    let whole : take (length t - c.in-Some.end) rest ≡ rest = take_all (length t - c.in-Some.end) rest (simp length-drop (omega arith)) in
    any_from_yields_List other _ _ _ c.any.ensures.ran (YieldsList-from_slice rest cc) (λ x b q h. search (rules, tests))
    ∙ ap (λ n. list_any other (drop n t)) e
    ∙ passed t

pub returns-in-None : goal.returns-in-None
unfolding rest_of
returns-in-None c =
    let t = c.args.text.now in
    let e : ltb (prefix_len other t) (length t) ≡ false = none _ _ (sym c.in-None.is ∙ first (goal.at.returns-in-None c).After-position) in
    let far : length t ≤ prefix_len other t = ltb-false _ _ e in
    ap (list_any other) (sym (drop_of_length-le t far)) ∙ passed t
