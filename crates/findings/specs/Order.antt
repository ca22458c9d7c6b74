-- Findings whose keys rise are in order, and each stands once.
use Rattle.std.specs.Prelude.{ℕ, suc, ◌<◌, ◌≡◌, refl, Bool, true, false, List, [], ◌∷◌, ◌++◌, ltb}
use Rattle.std.proofs.Common.{ap, subst, sym, inl, inr, arith, ltb-true, ltb-false}
use Rattle.finding.specs.declared.Finding.{Finding}
use Rattle.findings.specs.Broken.{Among, Before, BeforeAll, InOrder}
use Rattle.findings.specs.Inside.{key, Rising}

-- by the keys
before : (f g : Finding) → f.rule < 8 → g.rule < 8 → key f < key g → Before f g
before f g small other less = go (ltb f.at g.at) refl
  where
    go : (b : Bool) → ltb f.at g.at ≡ b → Before f g
    go true e = inl (ltb-true f.at g.at e)
    go false e = let above = ltb-false f.at g.at e in inr (omega arith, omega arith)

before-all : (f : Finding) (from to : ℕ) (fs : List Finding) → f.rule < 8 → key f < from → Rising from to fs → BeforeAll f fs
before-all f from to [] small less r = tt
before-all f from to (g ∷ gs) small less (above, other, r) =
    (before f g small other (omega arith), before-all f (suc (key g)) to gs small (omega arith) r)

pub in_order : (from to : ℕ) (fs : List Finding) → Rising from to fs → InOrder fs
in_order from to [] r = tt
in_order from to (f ∷ fs) (above, small, r) = (before-all f (suc (key f)) to fs small (omega arith) r, in_order (suc (key f)) to fs r)

-- a finding does not stand before itself
not_self : (f g : Finding) → f ≡ g → Before f g → ⊥
not_self f g is (inl less) = let same : f.at ≡ g.at = ap (λ (x : Finding). x.at) is in omega arith
not_self f g is (inr (at, less)) = let same : f.rule ≡ g.rule = ap (λ (x : Finding). x.rule) is in omega arith

not_among : (f g : Finding) (gs : List Finding) → f ≡ g → BeforeAll g gs → Among f gs → ⊥
not_among f g [] is b a = absurd a
not_among f g (h ∷ gs) is (b, bs) (inl same) = not_self f h same (subst (λ (x : Finding). Before x h) (sym is) b)
not_among f g (h ∷ gs) is (b, bs) (inr a) = not_among f g gs is bs a

-- so what stands after a finding, or before it, is none of it
pub none_after : (f : Finding) (xs ys : List Finding) → InOrder (xs ++ (f ∷ ys)) → Among f ys → ⊥
none_after f [] ys (b, o) a = not_among f f ys refl b a
none_after f (x ∷ xs) ys (b, o) a = none_after f xs ys o a

before-some : (x f : Finding) (xs ys : List Finding) → BeforeAll x (xs ++ (f ∷ ys)) → Before x f
before-some x f [] ys (b, bs) = b
before-some x f (y ∷ xs) ys (b, bs) = before-some x f xs ys bs

pub none_before : (f : Finding) (xs ys : List Finding) → InOrder (xs ++ (f ∷ ys)) → Among f xs → ⊥
none_before f [] ys o a = absurd a
none_before f (x ∷ xs) ys (b, o) (inl is) = not_self x f (sym is) (before-some x f xs ys b)
none_before f (x ∷ xs) ys (b, o) (inr a) = none_before f xs ys o a
