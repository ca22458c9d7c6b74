-- The smallest and the largest of some numbers: "attained and bounding".
use Rattle.std.specs.Prelude.{◌≡◌, refl, Bool, true, false, cond, not, ◌⊎◌, T, ℤ, pos, negsuc, ◌≤ℤ◌}
use Rattle.std.proofs.Common.{ap, sym, subst, inl, inr, le_trans, le_antisymm, le_of_lt, leb→le, le→leb, ltb→lt}
use Rattle.std.specs.Int.Signed.{lt_z, le_z, ≤ℤ_refl, lt_z_no}
use Rattle.sheet_count.specs.declared.Range.{Range}
use Rattle.sheet_count.specs.declared.Extent.{Extent}
use Rattle.sheet_count.specs.Count.{least_of, most_of, only, both, both_extents}

-- laws of the order
trans' : (a b c : ℤ) → T (le_z a b) → T (le_z b c) → T (le_z a c)
trans' (pos a) (pos b) (pos c) h k = le→leb a c (le_trans (leb→le a b h) (leb→le b c k))
trans' (pos a) (pos b) (negsuc c) h k = k
trans' (pos a) (negsuc b) c h k = absurd h
trans' (negsuc a) (pos b) (pos c) h k = tt
trans' (negsuc a) (pos b) (negsuc c) h k = absurd k
trans' (negsuc a) (negsuc b) (pos c) h k = tt
trans' (negsuc a) (negsuc b) (negsuc c) h k = le→leb c a (le_trans (leb→le c b k) (leb→le b a h))

pub ≤ℤ-trans : {a b c : ℤ} → a ≤ℤ b → b ≤ℤ c → a ≤ℤ c
≤ℤ-trans {a} {b} {c} h k = record { le = trans' a b c h.le k.le }

antisymm' : (a b : ℤ) → T (le_z a b) → T (le_z b a) → a ≡ b
antisymm' (pos a) (pos b) h k = ap pos (le_antisymm (leb→le a b h) (leb→le b a k))
antisymm' (pos a) (negsuc b) h k = absurd h
antisymm' (negsuc a) (pos b) h k = absurd k
antisymm' (negsuc a) (negsuc b) h k = ap negsuc (le_antisymm (leb→le a b k) (leb→le b a h))

pub ≤ℤ-antisymm : {a b : ℤ} → a ≤ℤ b → b ≤ℤ a → a ≡ b
≤ℤ-antisymm {a} {b} h k = antisymm' a b h.le k.le

less' : (a b : ℤ) → T (lt_z a b) → T (le_z a b)
less' (pos a) (pos b) h = le→leb a b (le_of_lt (ltb→lt a b h))
less' (pos a) (negsuc b) h = h
less' (negsuc a) (pos b) h = tt
less' (negsuc a) (negsuc b) h = le→leb b a (le_of_lt (ltb→lt b a h))

-- by a test: whichever is picked, the smaller one is picked
module _ (a b : ℤ) where
  pub passed : lt_z a b ≡ true → a ≤ℤ b
  passed e = record { le = less' a b (subst T (sym e) tt) }

  pub failed : lt_z a b ≡ false → b ≤ℤ a
  failed e = lt_z_no (subst (λ (t : Bool). T (not t)) (sym e) tt)

-- the smaller of two is one of them, and neither is smaller; and so the larger
pub record Least (a b m : ℤ) : Type 0 where
  pub first : m ≤ℤ a
  pub second : m ≤ℤ b
  pub one : (m ≡ a) ⊎ (m ≡ b)

pub least : (a b : ℤ) → Least a b (least_of a b)
least a b = go (lt_z b a) refl
  where
    go : (t : Bool) → lt_z b a ≡ t → Least a b (cond t b a)
    go true e = record { first = passed b a e; second = ≤ℤ_refl b; one = inr refl }
    go false e = record { first = ≤ℤ_refl a; second = failed b a e; one = inl refl }

pub record Most (a b m : ℤ) : Type 0 where
  pub first : a ≤ℤ m
  pub second : b ≤ℤ m
  pub one : (m ≡ a) ⊎ (m ≡ b)

pub most : (a b : ℤ) → Most a b (most_of a b)
most a b = go (lt_z b a) refl
  where
    go : (t : Bool) → lt_z b a ≡ t → Most a b (cond t a b)
    go true e = record { first = ≤ℤ_refl a; second = passed b a e; one = inl refl }
    go false e = record { first = failed b a e; second = ≤ℤ_refl b; one = inr refl }

-- r has the smallest and the largest of the numbers that P holds of
pub record Spans (P : ℤ → Type 0) (r : Range) : Type 0 where
  pub smallest : P r.min
  pub largest : P r.max
  pub above : (z : ℤ) → P z → r.min ≤ℤ z
  pub below : (z : ℤ) → P z → z ≤ℤ r.max

pub spans_only : (x : ℤ) → Spans (λ z. z ≡ x) (only x)
spans_only x =
    record {
      smallest = refl;
      largest = refl;
      above = λ z e. subst (λ (y : ℤ). x ≤ℤ y) (sym e) (≤ℤ_refl x);
      below = λ z e. subst (λ (y : ℤ). y ≤ℤ x) (sym e) (≤ℤ_refl x);
    }

-- two ranges together are of the numbers of both
pub spans_both : {P Q : ℤ → Type 0} (a b : Range) → Spans P a → Spans Q b → Spans (λ z. P z ⊎ Q z) (both a b)
unfolding both
spans_both {P} {Q} a b p q =
    let l = least a.min b.min in
    let m = most a.max b.max in
    record {
      smallest = pick l.one p.smallest q.smallest;
      largest = pick m.one p.largest q.largest;
      above = λ z some. lowest z some;
      below = λ z some. highest z some;
    }
  where
    pick : {m x y : ℤ} → (m ≡ x) ⊎ (m ≡ y) → P x → Q y → P m ⊎ Q m
    pick (inl e) h k = inl (subst P (sym e) h)
    pick (inr e) h k = inr (subst Q (sym e) k)

    lowest : (z : ℤ) → P z ⊎ Q z → least_of a.min b.min ≤ℤ z
    lowest z (inl h) = ≤ℤ-trans (least a.min b.min).first (p.above z h)
    lowest z (inr k) = ≤ℤ-trans (least a.min b.min).second (q.above z k)

    highest : (z : ℤ) → P z ⊎ Q z → z ≤ℤ most_of a.max b.max
    highest z (inl h) = ≤ℤ-trans (p.below z h) (most a.max b.max).first
    highest z (inr k) = ≤ℤ-trans (q.below z k) (most a.max b.max).second

-- and the same numbers have the same range
pub spans_same : {P Q : ℤ → Type 0} {r : Range} → ((z : ℤ) → P z → Q z) → ((z : ℤ) → Q z → P z) → Spans P r → Spans Q r
spans_same {P} {Q} {r} to from s =
    record { smallest = to r.min s.smallest; largest = to r.max s.largest; above = λ z h. s.above z (from z h); below = λ z h. s.below z (from z h) }

-- in whatever order ranges come together
under_both : {z a b : ℤ} → z ≤ℤ a → z ≤ℤ b → z ≤ℤ least_of a b
under_both {z} {a} {b} h k = go (least a b).one
  where
    go : (least_of a b ≡ a) ⊎ (least_of a b ≡ b) → z ≤ℤ least_of a b
    go (inl e) = subst (λ (m : ℤ). z ≤ℤ m) (sym e) h
    go (inr e) = subst (λ (m : ℤ). z ≤ℤ m) (sym e) k

over_both : {z a b : ℤ} → a ≤ℤ z → b ≤ℤ z → most_of a b ≤ℤ z
over_both {z} {a} {b} h k = go (most a b).one
  where
    go : (most_of a b ≡ a) ⊎ (most_of a b ≡ b) → most_of a b ≤ℤ z
    go (inl e) = subst (λ (m : ℤ). m ≤ℤ z) (sym e) h
    go (inr e) = subst (λ (m : ℤ). m ≤ℤ z) (sym e) k

under_three : (x y z : ℤ) → least_of (least_of x y) z ≤ℤ least_of (least_of x z) y
under_three x y z =
    let inner = least x y in
    let outer = least (least_of x y) z in
    under_both (under_both (≤ℤ-trans outer.first inner.first) outer.second) (≤ℤ-trans outer.first inner.second)

over_three : (x y z : ℤ) → most_of (most_of x y) z ≤ℤ most_of (most_of x z) y
over_three x y z =
    let inner = most x z in
    let outer = most (most_of x z) y in
    over_both (over_both (≤ℤ-trans inner.first outer.first) outer.second) (≤ℤ-trans inner.second outer.first)

pub both_order : (a b c : Range) → both (both a b) c ≡ both (both a c) b
unfolding both
both_order a b c =
    let min = ≤ℤ-antisymm (under_three a.min b.min c.min) (under_three a.min c.min b.min) in
    let max = ≤ℤ-antisymm (over_three a.max b.max c.max) (over_three a.max c.max b.max) in
    λ i. record { min = min i; max = max i }

pub extents_order : (a b c : Extent) → both_extents (both_extents a b) c ≡ both_extents (both_extents a c) b
unfolding both_extents
extents_order a b c = λ i. record { x = both_order a.x b.x c.x i; y = both_order a.y b.y c.y i; z = both_order a.z b.z c.z i }

pub both_swap : (a b : Range) → both a b ≡ both b a
unfolding both
both_swap a b =
    let min = ≤ℤ-antisymm (under_both (least a.min b.min).second (least a.min b.min).first) (under_both (least b.min a.min).second (least b.min a.min).first) in
    let max = ≤ℤ-antisymm (over_both (most b.max a.max).second (most b.max a.max).first) (over_both (most a.max b.max).second (most a.max b.max).first) in
    λ i. record { min = min i; max = max i }

pub extents_swap : (a b : Extent) → both_extents a b ≡ both_extents b a
unfolding both_extents
extents_swap a b = λ i. record { x = both_swap a.x b.x i; y = both_swap a.y b.y i; z = both_swap a.z b.z i }
