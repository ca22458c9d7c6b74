-- What the buffer of a column holds.
use Rattle.std.specs.Prelude.{Result, Ok, Err}
use Rattle.refusal.specs.Refused.{at_record}
use Rattle.refusal.specs.declared.Refused.{Refused}
use Rattle.std.specs.Prelude.{ℕ, ◌+◌, ◌*◌, ◌-◌, ◌≤◌, ◌<◌, min, Bool, ltb, length}
use Rattle.std.proofs.Math.Path.{◌≡◌, refl, ap, sym}
use Rattle.std.proofs.Common.{◌∙◌, add-zero, add-mul, mul-le-mul_right}
use Rattle.std.proofs.Math.Bool.{true, false, cond}
use mathlib.Core.List.{List}
use native.Mathlib.Omega.{arith}
use Rattle.std.proofs.Math.ListN.{drop, get_or}
use Rattle.std.proofs.Math.Seq.{drop_at}
use Rattle.le.specs.Le.{num}
use Rattle.le.specs.Part.{num-drop}
use Rattle.refusal.specs.declared.Refusal.{Refusal}
use Rattle.refusal.specs.declared.Refusal.TheVariants.{NoRoom, Index}
use Rattle.column.specs.Column.{same, firsts, entry_of, filled_of}
use Rattle.column.specs.Fill.{length-firsts, first-at}
use Rattle.attribute.specs.declared.Attribute.{Attribute}
use Rattle.attribute_value.specs.Value.{value_at, lies, bits_of}
use Rattle.attribute_value.specs.Many.{all_lie, column_of}
use Rattle.attribute_value.specs.Laws.{so_lies, bytes-at, first-bytes, all_say}

-- the number of a value, at its place
pub bits_are : (a : Attribute) (point : ℕ) (s : List ℕ) → lies a point s ≡ true → bits_of a point s ≡ num (min a.size 8) (value_at a point) s
unfolding bits_of
bits_are a point s e = ap (num 8 0) (bytes-at a point s e) ∙ first-bytes a.size (drop (value_at a point) s) ∙ rw (num-drop, add-zero)

module _ (a : Attribute) (first count : ℕ) (s d : List ℕ) where
  -- the three answers
  pub data Answered : Result ℕ Refused → List ℕ → Type 0 where
    filled : all_lie a first count s ≡ true → Answered (Ok count) (filled_of same (min a.size 8) (value_at a first) a.stride count s d)
    refused : {why : Refusal} → Answered (Err (at_record why 0)) d

  answered : Answered (column_of a first count s d).0 (column_of a first count s d).1
  unfolding column_of
  answered = go (all_lie a first count s) refl (ltb (length d) count)
    where
      go : (x : Bool) → all_lie a first count s ≡ x → (y : Bool) → (let r = cond {A = Result ℕ Refused × List ℕ} x (cond y (Err (at_record (NoRoom count) 0), d) (Ok count, filled_of same (min a.size 8) (value_at a first) a.stride count s d)) (Err (at_record (Index a.count) 0), d) in Answered r.0 r.1)
      go true e true = refused
      go true e false = filled e
      go false e y = refused

  -- every point of the stretch has its value in the file
  each-lies : all_lie a first count s ≡ true → (i : ℕ) → i < count → lies a (first + i) s ≡ true
  each-lies all i h =
      let (inner, last) = all_say a first count s all in
      let l = last (omega arith) in
      let before : (first + i - 1) * a.stride ≤ (first - 1 + count - 1) * a.stride = mul-le-mul_right a.stride (omega arith) in
      so_lies a (first + i) s (record { least = l.least; most = l.most; one = omega arith; counted = omega arith; ends = omega (arith, l.ends, before) })

  pub entry_is : (column_of a first count s d).0 ≡ Ok count → (i : ℕ) → i < count → get_or (column_of a first count s d).1 i 0 ≡ bits_of a (first + i) s
  unfolding filled_of
  entry_is e i h = go answered e
    where
      go : {x : Result ℕ Refused} {l : List ℕ} → Answered x l → x ≡ Ok count → get_or l i 0 ≡ bits_of a (first + i) s
      go (filled all) p =
          let one : 0 < first = (all_say a first count s all).0.0 in
          let at : value_at a first + i * a.stride ≡ value_at a (first + i) = let k : first + i - 1 ≡ first - 1 + i = omega arith in rw (k, add-mul) (omega arith) in
          first-at (entry_of same (min a.size 8) (value_at a first) a.stride s) count (drop count d) i 0 h
          ∙ ap (λ (j : ℕ). num (min a.size 8) j s) at ∙ sym (bits_are a (first + i) s (each-lies all i h))
      go refused p = let z : ◌≡◌ {A = ℕ} 0 1 = cc in absurd (omega arith)

  pub rest_is : (column_of a first count s d).0 ≡ Ok count → drop count (column_of a first count s d).1 ≡ drop count d
  unfolding filled_of
  rest_is e = go answered e
    where
      go : {x : Result ℕ Refused} {l : List ℕ} → Answered x l → x ≡ Ok count → drop count l ≡ drop count d
      go (filled all) p =
          let f = entry_of same (min a.size 8) (value_at a first) a.stride s in
          drop_at (firsts f count) (drop count d) count (length-firsts f count)
      go refused p = let z : ◌≡◌ {A = ℕ} 0 1 = cc in absurd (omega arith)

  pub was-refused : {why : Refusal} {k : ℕ} → (column_of a first count s d).0 ≡ Err (at_record why k) → (column_of a first count s d).1 ≡ d
  was-refused {why} {k} e = go answered e
    where
      go : {x : Result ℕ Refused} {l : List ℕ} → Answered x l → x ≡ Err (at_record why k) → l ≡ d
      go (filled all) p = let z : ◌≡◌ {A = ℕ} 0 1 = cc in absurd (omega arith)
      go refused p = refl
