-- Laws of values: what each test says, and the number that the first bytes of a value are.
use Rattle.std.specs.Prelude.{Ok, Err}
use Rattle.refusal.specs.Refused.{at_record}
use Rattle.std.specs.Prelude.{ℕ, ◌+◌, ◌*◌, ◌-◌, ◌≤◌, ◌<◌, min, Bool, List, [], leb, length, take, drop}
use Rattle.std.proofs.Math.Path.{◌≡◌, refl}
use Rattle.std.proofs.Common.{ap, ◌∙◌, mul-zero, add-zero, add-mul, mul-le-mul_right, arith}
use Rattle.std.proofs.Math.Bool.{true, false, cond, and-eq-true_iff}
use Rattle.std.proofs.Math.Nat.{min-eq_left, min-eq_right}
use borrow.Author.Tests.{lt-ltb, le-leb, le-ltb, ltb-true, leb-true, leb-false, eq-eqb, ne_eqb, eqb-true}
use Rattle.std.proofs.Math.Dec.{eqb}
use Rattle.le.specs.Le.{le, num}
use Rattle.le.specs.Laws.{le-add, drop-take, num-take, num_past}
use Rattle.refusal.specs.declared.Refusal.{Refusal}
use Rattle.refusal.specs.declared.Refusal.TheVariants.{NoRoom, Index}
use Rattle.column.specs.Column.{same, within, firsts, filled_of}
use Rattle.column.specs.Exact.{Within}
use Rattle.column.specs.Stretch.{inside, inside_says, outside}
use Rattle.attribute.specs.declared.Attribute.{Attribute}
use Rattle.attribute_value.specs.Value.{value_at, lies, placed_of, bytes_of}
use Rattle.attribute_value.specs.Many.{Stand, all_lie, column_of}

-- bytes that are not there count as 0
padded : (n k : ℕ) (l : List ℕ) → num (n + k) 0 (take n l) ≡ num n 0 l
unfolding num
padded n k l =
    let none : n - n ≡ 0 = omega arith in
    let rest : le k (drop n (take n l)) ≡ 0 = rw (drop-take n n l, none) (num_past k [] 0 (omega arith)) in
    le-add n k (take n l) ∙ rw (rest, mul-zero, add-zero) (num-take n 0 l n (omega arith))

-- "bits as stored": the number that n bytes are, read as eight
pub first-bytes : (n : ℕ) (l : List ℕ) → num 8 0 (take n l) ≡ num (min n 8) 0 l
first-bytes n l = go (leb n 8) refl
  where
    go : (b : Bool) → leb n 8 ≡ b → num 8 0 (take n l) ≡ num (min n 8) 0 l
    go true e = let less : n ≤ 8 = leb-true n 8 e in let all : 8 ≡ n + (8 - n) = omega arith in rw (min-eq_left less) (ap (λ (w : ℕ). num w 0 (take n l)) all ∙ padded n (8 - n) l)
    go false e = let more : 8 ≤ n = omega (arith, leb-false n 8 e) in rw (min-eq_right more) (num-take 8 0 l n (omega arith))

module _ (a : Attribute) (point : ℕ) (s : List ℕ) where
  -- what it says that a value lies in the file
  pub record Lies : Type 0 where
    pub least : 20 ≤ a.stride
    pub most : a.stride ≤ 65535
    pub one : 0 < point
    pub counted : point ≤ a.count
    pub ends : value_at a point + a.size ≤ length s

  pub lies_says : lies a point s ≡ true → Lies
  unfolding lies
  lies_says e =
      let p = (and-eq-true_iff _ _).0 e in
      let q = (and-eq-true_iff _ _).0 p.1 in
      let r = (and-eq-true_iff _ _).0 q.1 in
      let t = (and-eq-true_iff _ _).0 r.1 in
      record { least = leb-true _ _ p.0; most = leb-true _ _ q.0; one = ltb-true _ _ r.0; counted = leb-true _ _ t.0; ends = leb-true _ _ t.1 }

  pub so_lies : Lies → lies a point s ≡ true
  unfolding lies
  so_lies h = rw (le-leb _ _ h.least, le-leb _ _ h.most, lt-ltb _ _ h.one, le-leb _ _ h.counted, le-leb _ _ h.ends)

  pub lies-not : (Lies → ⊥) → lies a point s ≡ false
  lies-not differs = go (lies a point s) refl
    where
      go : (b : Bool) → lies a point s ≡ b → b ≡ false
      go true e = absurd (differs (lies_says e))
      go false e = refl

  -- and by it the answers
  pub placed_at : lies a point s ≡ true → placed_of a point s ≡ Ok (value_at a point)
  unfolding placed_of
  placed_at e = rw e

  pub not-placed : lies a point s ≡ false → placed_of a point s ≡ Err (Index a.count)
  unfolding placed_of
  not-placed e = rw e

  pub placed_says : {at : ℕ} → placed_of a point s ≡ Ok at → (lies a point s ≡ true) × (at ≡ value_at a point)
  unfolding placed_of
  placed_says {at} = go (lies a point s)
    where
      go : (b : Bool) → cond b (Ok (value_at a point)) (Err (Index a.count)) ≡ Ok at → (b ≡ true) × (at ≡ value_at a point)
      go true e = (refl, cc)
      go false e = let z : ◌≡◌ {A = ℕ} 0 1 = cc in absurd (omega arith)

  pub refused_says : {r : Refusal} → placed_of a point s ≡ Err r → lies a point s ≡ false
  unfolding placed_of
  refused_says {r} = go (lies a point s)
    where
      go : (b : Bool) → cond b (Ok (value_at a point)) (Err (Index a.count)) ≡ Err r → b ≡ false
      go true e = let z : ◌≡◌ {A = ℕ} 0 1 = cc in absurd (omega arith)
      go false e = refl

  pub bytes-at : lies a point s ≡ true → bytes_of a point s ≡ take a.size (drop (value_at a point) s)
  unfolding bytes_of
  bytes-at e = rw e

  pub no_bytes : lies a point s ≡ false → bytes_of a point s ≡ []
  unfolding bytes_of
  no_bytes e = rw e

-- many of them
module _ (a : Attribute) (first count : ℕ) (s : List ℕ) where
  pub all_say : all_lie a first count s ≡ true → Within first count a.count × (0 < count → Lies a (first - 1 + count) s)
  unfolding all_lie
  all_say e =
      let p = (and-eq-true_iff (within first count a.count) _).0 e in
      (inside_says first count a.count p.0, λ some. go (eqb count 0) refl some p.1)
    where
      go : (b : Bool) → eqb count 0 ≡ b → 0 < count → cond b true (lies a (first - 1 + count) s) ≡ true → Lies a (first - 1 + count) s
      go true t some h = absurd (omega (arith, eqb-true count 0 t))
      go false t some h = lies_says a (first - 1 + count) s h

  pub none_lie : (Within first count a.count → ⊥) → all_lie a first count s ≡ false
  unfolding all_lie
  none_lie h = rw (outside first count a.count h)

  module _ (inner : Within first count a.count) where
    pub empty-lies : count ≡ 0 → all_lie a first count s ≡ true
    unfolding all_lie
    empty-lies e = rw (inside first count a.count inner, eq-eqb _ _ e)

    pub by_last : (count ≡ 0 → ⊥) → all_lie a first count s ≡ lies a (first - 1 + count) s
    unfolding all_lie
    by_last e = rw (inside first count a.count inner, ne_eqb _ _ e)

  module _ (d : List ℕ) where
    pub not-all : all_lie a first count s ≡ false → column_of a first count s d ≡ (Err (at_record (Index a.count) 0), d)
    unfolding column_of
    not-all e = rw e

    module _ (all : all_lie a first count s ≡ true) where
      pub no_room : length d < count → column_of a first count s d ≡ (Err (at_record (NoRoom count) 0), d)
      unfolding column_of
      no_room h = rw (all, lt-ltb _ _ h)

      pub filled : count ≤ length d → column_of a first count s d ≡ (Ok count, filled_of same (min a.size 8) (value_at a first) a.stride count s d)
      unfolding column_of
      filled h = rw (all, le-ltb _ _ h)

      -- none is filled where none is asked for
      pub none : count ≡ 0 → column_of a first count s d ≡ (Ok count, d)
      unfolding filled_of firsts
      none e = filled (omega arith) ∙ rw e

      -- their first bytes stand in the file
      pub stand : 0 < count → Stand (min a.size 8) (value_at a first) a.stride count s
      stand some =
          let (inner, last) = all_say all in
          let l = last some in
          record {
            each = λ i h.
                let k = first - 1 + count - 1 in
                let before : (first - 1 + i) * a.stride ≤ k * a.stride = mul-le-mul_right a.stride (omega arith) in
                omega (arith, l.ends, add-mul (first - 1) i a.stride, before);
            short = omega arith;
            record_long = (l.least, l.most);
          }
