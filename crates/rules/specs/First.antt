-- Laws of lists of rules: what the first that fails answers.
use Rattle.std.specs.Prelude.{Result, Ok, Err}
use Rattle.rules.specs.NotAccepted.{not_accepted}
use Rattle.rules.specs.declared.NotAccepted.{NotAccepted}
use Rattle.std.specs.Prelude.{ℕ, ◌≡◌, refl, Bool, true, false, cond, List, [], ◌∷◌, ◌++◌}
use Rattle.std.proofs.Common.{sym, ap, arith}
use Rattle.refusal.specs.declared.Refusal.{Refusal}
use Rattle.rules.specs.Rules.{Rule, refused_by, first}

-- all rules of a list hold
abbrev pub All : List Rule → Type 0
All [] = Unit
All (r ∷ rs) = (r.holds ≡ true) × All rs

-- the first of two lists, one after the other
pub first-append : (xs ys : List Rule) (done : Result ℕ NotAccepted) → first (xs ++ ys) done ≡ first xs (first ys done)
unfolding first
first-append [] ys done = refl
first-append (x ∷ xs) ys done = rw (first-append xs ys done)

-- where all hold there is no refusal
pub all_hold : (rs : List Rule) (done : Result ℕ NotAccepted) → All rs → first rs done ≡ done
unfolding first
all_hold [] done a = refl
all_hold (r ∷ rs) done (h, a) = rw h (all_hold rs done a)

-- an answer that is no refusal says that all hold
pub accepted-all : (rs : List Rule) {n m : ℕ} → first rs (Ok n) ≡ Ok m → All rs × (n ≡ m)
unfolding first
accepted-all [] p = (tt, cc)
accepted-all (r ∷ rs) {n} {m} p = go r.holds refl p (accepted-all rs)
  where
    go : (b : Bool) → r.holds ≡ b → cond b (first rs (Ok n)) (refused_by r) ≡ Ok m → (first rs (Ok n) ≡ Ok m → All rs × (n ≡ m)) → All (r ∷ rs) × (n ≡ m)
    go true q h later = let a = later h in ((q, a.0), a.1)
    go false q h later = let z : ◌≡◌ {A = ℕ} 0 1 = cc in absurd (omega arith)

-- a refusal stays whatever would follow
pub refused-first : (rs : List Rule) (done : Result ℕ NotAccepted) (n : ℕ) {r : Refusal} {k m : ℕ} → first rs (Ok n) ≡ Err (not_accepted r k m) → first rs done ≡ Err (not_accepted r k m)
unfolding first
refused-first [] done n p = let z : ◌≡◌ {A = ℕ} 0 1 = cc in absurd (omega arith)
refused-first (x ∷ xs) done n {r} {k} {m} p = go x.holds p (refused-first xs done n)
  where
    go : (b : Bool) → cond b (first xs (Ok n)) (refused_by x) ≡ Err (not_accepted r k m) → (first xs (Ok n) ≡ Err (not_accepted r k m) → first xs done ≡ Err (not_accepted r k m)) → cond b (first xs done) (refused_by x) ≡ Err (not_accepted r k m)
    go true h later = later h
    go false h later = h

-- the first of some rules that fails: all before it hold, and it does not
pub record FirstFailing (rs : List Rule) (x : Result ℕ NotAccepted) : Type 0 where
  pub before : List Rule
  pub failing : Rule
  pub after : List Rule
  pub order : rs ≡ before ++ (failing ∷ after)
  pub hold : All before
  pub fails : failing.holds ≡ false
  pub answer : x ≡ refused_by failing

pub first_failing : (rs : List Rule) (n : ℕ) {r : Refusal} {k m : ℕ} → first rs (Ok n) ≡ Err (not_accepted r k m) → FirstFailing rs (Err (not_accepted r k m))
unfolding first
first_failing [] n p = let z : ◌≡◌ {A = ℕ} 0 1 = cc in absurd (omega arith)
first_failing (x ∷ xs) n {r} {k} {m} p = go x.holds refl p (first_failing xs n)
  where
    go : (b : Bool) → x.holds ≡ b → cond b (first xs (Ok n)) (refused_by x) ≡ Err (not_accepted r k m) → (first xs (Ok n) ≡ Err (not_accepted r k m) → FirstFailing xs (Err (not_accepted r k m))) → FirstFailing (x ∷ xs) (Err (not_accepted r k m))
    go true q h later =
        let f = later h in
        record { before = x ∷ f.before; failing = f.failing; after = f.after; order = ap (λ (l : List Rule). x ∷ l) f.order; hold = (q, f.hold); fails = f.fails; answer = f.answer }
    go false q h later = record { before = []; failing = x; after = xs; order = refl; hold = tt; fails = q; answer = sym h }

-- two lists of rules together
pub all_append : (xs ys : List Rule) → All xs → All ys → All (xs ++ ys)
all_append [] ys a b = b
all_append (x ∷ xs) ys (h, a) b = (h, all_append xs ys a b)

pub all_split : (xs ys : List Rule) → All (xs ++ ys) → All xs × All ys
all_split [] ys a = (tt, a)
all_split (x ∷ xs) ys (h, a) = let p = all_split xs ys a in ((h, p.0), p.1)
