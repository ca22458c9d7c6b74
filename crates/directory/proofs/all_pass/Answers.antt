use Prim.Native.Nat.{ℕ, zero, suc, ◌+◌}
use mathlib.Core.Path.{◌≡◌, refl, ◌∙◌}
use mathlib.Core.Bool.{Bool, true, false, ◌&&◌}
use native.Mathlib.Omega.{arith}
use borrow.Author.Rules.{rules}
use borrow.Author.Tests.{tests}
use Rattle.std.proofs.Common.{add-one}
use Rattle.std.specs.List.{list_all, range_with_len}
use Rattle.std.proofs.lemmas.Iterator.{YieldsList-from_range}
use Rattle.std.proofs.lemmas.Iterator.Search.{all_from_yields_List}
use Rattle.directory.specs.Directory.{passes, every}
use Rattle.directory.proofs.all_pass.Goals as goal

-- those before n, and m from there on
onwards : (f : ℕ → Bool) (n m k : ℕ) → n + m ≡ k → (every f n && list_all f (range_with_len n m)) ≡ every f k
unfolding every
onwards f n zero k e = let same : n ≡ k = omega arith in rw same (last (every f k))
  where
    last : (b : Bool) → (b && true) ≡ b
    last true = refl
    last false = refl
onwards f n (suc m) k e =
    rw add-one (later (every f n) (f n) (list_all f (range_with_len (suc n) m)) ∙ onwards f (suc n) m k (omega arith))
  where
    later : (a b c : Bool) → (a && (b && c)) ≡ ((a && b) && c)
    later true b c = refl
    later false b c = refl

pub returns : goal.returns
unfolding every
returns c =
    let a = c.args in
    let test = passes a.question a.doubles a.text a.directory.now in
    all_from_yields_List test _ _ c.all.result c.all.ensures.ran (YieldsList-from_range 0 a.n a.n refl (omega arith)) (λ x b q k. search (rules, tests)) ∙ onwards test 0 a.n a.n (omega arith)
