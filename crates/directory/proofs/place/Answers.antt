use Prim.Native.Nat.{ℕ, zero, suc, ◌+◌}
use mathlib.Core.Path.{◌≡◌, refl, ap, ◌∙◌}
use mathlib.Core.Bool.{Bool, true, false, cond}
use native.Mathlib.Omega.{arith}
use borrow.Author.Rules.{rules}
use borrow.Author.Tests.{tests}
use lib.Dec.{eqb}
use Rattle.std.proofs.Common.{add-one}
use Rattle.std.specs.Prelude.{Option, Some, None}
use Rattle.std.specs.Option.{unwrap_or, option_map}
use Rattle.std.specs.List.{find, range_with_len}
use Rattle.std.proofs.lemmas.Iterator.{YieldsList-from_range}
use Rattle.std.proofs.lemmas.Iterator.Search.{find_from_yields_List}
use Rattle.directory.specs.Directory.{key_of, place_from, place_of}
use Rattle.directory.proofs.place.Goals as goal

-- a search of n places from k on
searched : (f : ℕ → ℕ) (x k n end : ℕ) → k + n ≡ end → unwrap_or (find (λ (j : ℕ). eqb (f j) x) (range_with_len k n)) end ≡ place_from f x k n
unfolding place_from
searched f x k zero end e = omega arith
searched f x k (suc n) end e = rw add-one (go (eqb (f k) x) (searched f x (suc k) n end (omega arith)))
  where
    go : (b : Bool) → unwrap_or (find (λ (j : ℕ). eqb (f j) x) (range_with_len (suc k) n)) end ≡ place_from f x (suc k) n → unwrap_or (cond b (Some k) (find (λ (j : ℕ). eqb (f j) x) (range_with_len (suc k) n))) end ≡ cond b k (place_from f x (suc k) n)
    go true later = refl
    go false later = later

pub returns : goal.returns
unfolding place_of
returns c =
    let a = c.args in
    let key = key_of a.directory.now in
    let found = find_from_yields_List (λ (k : ℕ). eqb (key k) a.wanted) _ _ c.find.result c.find.ensures.ran (YieldsList-from_range 0 a.n a.n refl (omega arith)) (λ x b q k. search (rules, tests)) in
    c.unwrap_or.ensures ∙ same c.find.result a.n ∙ ap (λ (r : Option ℕ). unwrap_or r a.n) found ∙ searched key a.wanted 0 a.n a.n (omega arith)
  where
    same : (r : Option ℕ) (n : ℕ) → unwrap_or r n ≡ unwrap_or (option_map (λ (k : ℕ). k) r) n
    same (Some k) n = refl
    same None n = refl
