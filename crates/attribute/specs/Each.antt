-- What the tests over all descriptors say of each: the k-th, counted from 0, is what stands k times 192 bytes behind the first.
use Rattle.std.specs.Prelude.{Option, Some, None}
use Rattle.attribute.specs.NamedAt.{named_at}
use Rattle.attribute.specs.declared.Named.{Named}
use Prim.Native.Nat.{ℕ, zero, suc, ◌+◌, ◌*◌, ◌≤◌, ◌<◌}
use Rattle.std.specs.Prelude.{◌≡◌, Bool, cond, ◌&&◌, List, leb, drop}
use Rattle.std.proofs.Math.Path.{refl}
use Rattle.std.proofs.Common.{ap, sym, ◌∙◌, leb-true, leb-false, drop-drop}
use Rattle.std.proofs.Math.Bool.{true, false, and-eq-true_iff}
use native.Mathlib.Omega.{arith}
use Rattle.descriptor.specs.Descriptor.{type_in, name_in}
use Rattle.names.specs.Names.{is_named}
use Rattle.attribute.specs.Attributes.{size_in, types_known, sizes_of}
use Rattle.attribute.specs.Find.{named_from}

-- the k-th descriptor of d
abbrev pub nth : ℕ → List ℕ → List ℕ
nth k d = drop (k * 192) d

later : (k : ℕ) (d : List ℕ) → nth (suc k) d ≡ nth k (drop 192 d)
later k d = let e : suc k * 192 ≡ 192 + k * 192 = omega arith in rw (e, drop-drop)

-- "a type above 10": all are known, or there is one that is not
pub types_all : (n : ℕ) (d : List ℕ) → types_known n d ≡ true → (k : ℕ) → k < n → type_in (nth k d) ≤ 10
unfolding types_known
types_all zero d e k h = absurd (omega arith)
types_all (suc n) d e zero h = leb-true (type_in d) 10 ((and-eq-true_iff _ _).0 e).0
types_all (suc n) d e (suc k) h = rw later (types_all n (drop 192 d) ((and-eq-true_iff (leb (type_in d) 10) _).0 e).1 k (omega arith))

pub types_some : (n : ℕ) (d : List ℕ) → types_known n d ≡ false → (k : ℕ) × (k < n) × (10 < type_in (nth k d))
unfolding types_known
types_some zero d e = let z : ◌≡◌ {A = ℕ} 0 1 = cc in absurd (omega arith)
types_some (suc n) d e = go (leb (type_in d) 10) refl e (types_some n (drop 192 d))
  where
    go : (b : Bool) → leb (type_in d) 10 ≡ b → (b && types_known n (drop 192 d)) ≡ false → (types_known n (drop 192 d) ≡ false → (k : ℕ) × (k < n) × (10 < type_in (nth k (drop 192 d)))) → (k : ℕ) × (k < suc n) × (10 < type_in (nth k d))
    go true t h others = let (k, below, above) = others h in (suc k, omega arith, rw later above)
    go false t h others = (0, omega arith, leb-false (type_in d) 10 t)

pub type_above : (n : ℕ) (d : List ℕ) (k : ℕ) → k < n → 10 < type_in (nth k d) → types_known n d ≡ false
type_above n d k h above = go (types_known n d) refl
  where
    go : (b : Bool) → types_known n d ≡ b → b ≡ false
    go true e = absurd (omega (arith, types_all n d e k h))
    go false e = refl

-- "of equal names, the first": the j-th has the name, and none before it
module _ (name : List ℕ) where
  abbrev pub has : ℕ → List ℕ → Bool
  has k d = is_named (name_in (nth k d)) name

  pub record FirstNamed (n : ℕ) (d : List ℕ) (j : ℕ) : Type 0 where
    pub one_of : j < n
    pub it_has : has j d ≡ true
    pub none_before : (i : ℕ) → i < j → has i d ≡ false

  -- what the search answers
  abbrev pub Answers : ℕ → ℕ → ℕ → List ℕ → Option Named → Type 0
  Answers n k place d (Some named) = (j : ℕ) × FirstNamed n d j × (named.descriptor ≡ k + j * 192) × (named.place ≡ place + sizes_of j d)
  Answers n k place d None = (i : ℕ) → i < n → has i d ≡ false

  passed : (n k place : ℕ) (d : List ℕ) → has 0 d ≡ false → (x : Option Named) → Answers n (k + 192) (place + size_in d) (drop 192 d) x → Answers (suc n) k place d x
  unfolding sizes_of
  passed n k place d other (Some named) (j, f, at, sum) =
      (suc j, record { one_of = omega (arith, f.one_of); it_has = rw later f.it_has; none_before = before }, omega arith, omega arith)
    where
      before : (i : ℕ) → i < suc j → has i d ≡ false
      before zero h = other
      before (suc i) h = rw later (f.none_before i (omega arith))
  passed n k place d other None none = each
    where
      each : (i : ℕ) → i < suc n → has i d ≡ false
      each zero h = other
      each (suc i) h = rw later (none i (omega arith))

  here : (n k place : ℕ) (d : List ℕ) (others : Option Named) → Answers n (k + 192) (place + size_in d) (drop 192 d) others → (b : Bool) → has 0 d ≡ b → Answers (suc n) k place d (cond b (Some (named_at k place)) others)
  unfolding sizes_of
  here n k place d others later true e = (0, record { one_of = omega arith; it_has = e; none_before = λ i h. absurd (omega arith) }, omega arith, omega arith)
  here n k place d others later false e = passed n k place d e others later

  pub answers : (n k place : ℕ) (d : List ℕ) → Answers n k place d (named_from name n k place d)
  unfolding named_from
  answers zero k place d = λ i h. absurd (omega arith)
  answers (suc n) k place d = here n k place d (named_from name n (k + 192) (place + size_in d) (drop 192 d)) (answers n (k + 192) (place + size_in d) (drop 192 d)) (has 0 d) refl

  -- and where none has it, nothing is found
  pub none_has : (n k place : ℕ) (d : List ℕ) → ((i : ℕ) → i < n → has i d ≡ false) → named_from name n k place d ≡ None
  none_has n k place d none = go (named_from name n k place d) refl (answers n k place d)
    where
      go : (x : Option Named) → named_from name n k place d ≡ x → Answers n k place d x → x ≡ None
      go (Some named) e (j, f, at, sum) =
          let no = none j f.one_of in
          let z : ◌≡◌ {A = ℕ} 0 1 = ap (λ (b : Bool). cond b 0 1) (sym f.it_has ∙ no) in
          absurd (omega arith)
      go None e h = refl
