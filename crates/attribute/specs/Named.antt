-- Which attribute is found by a name, and when none is.
use Rattle.std.specs.Prelude.{Option, Some, None, Result, Ok, Err}
use Rattle.attribute.specs.NamedAt.{named_at}
use Rattle.refusal.specs.Refused.{at_record, ok_same, refused_same}
use Rattle.refusal.specs.declared.Refused.{Refused}
use Rattle.attribute.specs.declared.Named.{Named}
use Rattle.std.specs.Prelude.{ℕ, zero, suc, ◌+◌, ◌*◌, ◌-◌, ◌≤◌, ◌<◌, ◌≡◌, refl, List, take, drop}
use Rattle.std.proofs.Math.Path.{ap}
use Rattle.std.proofs.Common.{sym, subst, ◌∙◌, add-zero, le-leb, drop-drop}
use native.Mathlib.Omega.{arith}
use Rattle.le.specs.Le.{num}
use Rattle.le.specs.Laws.{num-take}
use Rattle.le.specs.Part.{num-drop}
use Rattle.refusal.specs.declared.Refusal.{Refusal}
use Rattle.refusal.specs.declared.Refusal.TheVariants.{NameNotFound}
use Rattle.format.specs.declared.Field.TheVariants.{ExtraBytes}
use Rattle.format.specs.Fields.{place_of}
use Rattle.descriptor.specs.Sizes.{size_of}
use Rattle.descriptor.specs.Descriptor.{type_in}
use Rattle.outline.specs.declared.Outline.{Outline}
use Rattle.file.specs.Points.{point_format}
use Rattle.cursor.specs.Parts.{outline_in}
use Rattle.attribute.specs.declared.Attribute.{Attribute}
use Rattle.attribute.specs.declared.Attributes.{Attributes}
use Rattle.attribute.specs.Attributes.{size_in, sizes_of, before_first, attribute_at, begun_of}
use Rattle.attribute.specs.Find.{named_from, searched_by, searched_in, found_by, found_of}
use Rattle.attribute.specs.Laws.{described}
use Rattle.attribute.specs.Each.{nth, FirstNamed, Answers, types_all, answers, none_has}
use Rattle.attribute.specs.Exact.{DataAt, descriptors, Fitting, NotFoundFor, none, no_name, FoundIn}
use Rattle.attribute.specs.Ready.{Began, began}
use Rattle.attribute.specs.Told.{types-known, by_data, whole, then_none, none_then}

-- the numbers of the j-th of n descriptors, read in the file
module _ (s : List ℕ) (start n j : ℕ) (below : j < n) where
  abbrev d : List ℕ
  d = take (n * 192) (drop start s)

  pub number : (w at : ℕ) → at + w ≤ 192 → num w at (drop (start + j * 192) s) ≡ num w at (nth j d)
  number w at h =
      let there : start + j * 192 + at ≡ start + (j * 192 + at) = omega arith in
      num-drop w at (start + j * 192) s ∙ rw there (sym (num-drop w (j * 192 + at) start s))
      ∙ sym (num-take w (j * 192 + at) (drop start s) (n * 192) (omega arith)) ∙ sym (num-drop w at (j * 192) d)

  pub size : size_in (drop (start + j * 192) s) ≡ size_in (nth j d)
  unfolding size_in
  size = λ i. size_of (number 1 2 (omega arith) i) (number 1 3 (omega arith) i)

-- the sizes of some, and of one more
pub sizes-next : (j : ℕ) (d : List ℕ) → sizes_of (suc j) d ≡ sizes_of j d + size_in (nth j d)
unfolding sizes_of
sizes-next zero d = omega arith
sizes-next (suc j) d = let e : suc j * 192 ≡ 192 + j * 192 = omega arith in rw (e, ← drop-drop) (omega (arith, sizes-next j (drop 192 d)))

pub sizes-grow : (m j : ℕ) (d : List ℕ) → sizes_of j d ≤ sizes_of (j + m) d
sizes-grow zero j d = rw add-zero (omega arith)
sizes-grow (suc m) j d = let e : j + suc m ≡ suc (j + m) = omega arith in rw e (omega (arith, sizes-next (j + m) d, sizes-grow m j d))

sizes-within : (j n : ℕ) (d : List ℕ) → j < n → sizes_of j d + size_in (nth j d) ≤ sizes_of n d
sizes-within j n d h = let e : suc j + (n - suc j) ≡ n = omega arith in omega (arith, sizes-next j d, subst (λ (k : ℕ). sizes_of (suc j) d ≤ sizes_of k d) e (sizes-grow (n - suc j) (suc j) d))

module _ (allowance : ℕ) (name s : List ℕ) where
  abbrev o : Outline
  o = outline_in s

  -- the search among n descriptors that pass the tests
  module _ {start n : ℕ} (at : DataAt allowance s start (n * 192)) (fit : Fitting allowance s start n) where
    begins : begun_of allowance s ≡ Ok (before_first o start n)
    begins =
        let l = take (n * 192) (drop start s) in
        let (multiple, count) = whole allowance s at.1 in
        by_data allowance s at
        ∙ described o start l multiple (rw count (types-known n l fit.0)) (rw count (le-leb (sizes_of n l) (point_format o).extra_bytes fit.1))
        ∙ ap (λ (k : ℕ). Ok (before_first o start k)) count

    searched : found_of allowance name s ≡ searched_by (before_first o start n) s (named_from name n 0 0 (descriptors allowance s start n))
    unfolding found_of searched_in before_first
    searched = ap (found_by name s) begins

  pub then_not_found : {why : Refusal} {j : ℕ} → NotFoundFor allowance s name why j → found_of allowance name s ≡ Err (at_record why j)
  unfolding found_of
  then_not_found (none x) = rw (then_none allowance s x)
  then_not_found (no_name {start} {n} at fit each) = searched at fit ∙ rw (none_has name n 0 0 (descriptors allowance s start n) each)

  -- the place before the first, by what it says
  passes : {c : Attributes} (b : Began allowance s c) → DataAt allowance s b.start (b.n * 192) × Fitting allowance s b.start b.n
  passes b = (((b.records, b.accepted), b.found), (types_all b.n (take (b.n * 192) (drop b.start s)) b.types, b.sizes))

  not_among : {c : Attributes} {why : Refusal} {j : ℕ} (b : Began allowance s c) → found_of allowance name s ≡ Err (at_record why j) → NotFoundFor allowance s name why j
  not_among {c} {why} {j} b e = go (named_from name b.n 0 0 l) refl (answers name b.n 0 0 l) (sym (searched (passes b).0 (passes b).1) ∙ e)
    where
      l : List ℕ
      l = descriptors allowance s b.start b.n

      go : (x : Option Named) → named_from name b.n 0 0 (descriptors allowance s b.start b.n) ≡ x → Answers name b.n 0 0 (descriptors allowance s b.start b.n) x → searched_by (before_first (outline_in s) b.start b.n) s x ≡ Err (at_record why j) → NotFoundFor allowance s name why j
      go (Some named) q h e = let z : ◌≡◌ {A = ℕ} 0 1 = cc in absurd (omega arith)
      go None q h e =
          let same : NameNotFound ≡ why = (refused_same e).0 in
          let number : 0 ≡ j = (refused_same e).1 in
          subst (λ (r : Refusal). NotFoundFor allowance s name r j) same (subst (NotFoundFor allowance s name NameNotFound) number (no_name (passes b).0 (passes b).1 h))

  -- what the answer goes by
  by_begun : {x : Result Attributes Refused} → begun_of allowance s ≡ x → found_of allowance name s ≡ found_by name s x
  unfolding found_of
  by_begun = ap (found_by name s)

  pub not_found_then : {why : Refusal} {j : ℕ} → found_of allowance name s ≡ Err (at_record why j) → NotFoundFor allowance s name why j
  not_found_then {why} {j} e = go (begun_of allowance s) refl
    where
      go : (x : Result Attributes Refused) → begun_of allowance s ≡ x → NotFoundFor allowance s name why j
      go (Ok c) q = not_among (began allowance s q) e
      go (Err err) q =
          let p : Err err ≡ Err (at_record why j) = sym (by_begun q) ∙ e in
          let same : err.refusal ≡ why = (refused_same p).0 in
          let number : err.«record» ≡ j = (refused_same p).1 in
          none (none_then allowance s (q ∙ λ i. Err (at_record (same i) (number i))))

  -- an attribute that is found
  made : (start n k p : ℕ) {a : Attribute} → searched_by (before_first o start n) s (Some (named_at k p)) ≡ Ok a → a ≡ attribute_at s (start + k) (o.offset_to_point_data + place_of (point_format o) ExtraBytes + p) (before_first o start n)
  unfolding before_first
  made start n k p e = sym (ok_same e)

  found_at : {start n k p j : ℕ} {a : Attribute} → DataAt allowance s start (n * 192) → Fitting allowance s start n → FirstNamed name n (descriptors allowance s start n) j → k ≡ 0 + j * 192 → p ≡ 0 + sizes_of j (descriptors allowance s start n) → searched_by (before_first o start n) s (Some (named_at k p)) ≡ Ok a → FoundIn allowance s name a
  unfolding attribute_at before_first
  found_at {start} {n} {k} {p} {j} {a} vlr fit f at sum e =
      let is = made start n k p e in
      let l = descriptors allowance s start n in
      let place : start + k ≡ start + j * 192 = omega arith in
      let long : a.size ≡ size_in (nth j l) = ap (λ (x : Attribute). x.size) is ∙ ap (λ (i : ℕ). size_in (drop i s)) place ∙ size s start n j f.one_of in
      record {
        start = start;
        n = n;
        vlr = vlr;
        fitting = fit;
        j = j;
        first_named = f;
        data_type = ap (λ (x : Attribute). x.data_type) is ∙ ap (λ (i : ℕ). type_in (drop i s)) place ∙ number s start n j f.one_of 1 2 (omega arith);
        size = long;
        place = ap (λ (x : Attribute). x.at) is ∙ omega arith;
        within = omega (arith, sizes-within j n l f.one_of, fit.1);
        stride = ap (λ (x : Attribute). x.stride) is;
        count = ap (λ (x : Attribute). x.count) is;
      }

  among : {c : Attributes} {a : Attribute} (b : Began allowance s c) → found_of allowance name s ≡ Ok a → FoundIn allowance s name a
  among {c} {a} b e = go (named_from name b.n 0 0 (descriptors allowance s b.start b.n)) (answers name b.n 0 0 (descriptors allowance s b.start b.n)) (sym (searched (passes b).0 (passes b).1) ∙ e)
    where
      go : (x : Option Named) → Answers name b.n 0 0 (descriptors allowance s b.start b.n) x → searched_by (before_first (outline_in s) b.start b.n) s x ≡ Ok a → FoundIn allowance s name a
      go None h p = let z : ◌≡◌ {A = ℕ} 0 1 = cc in absurd (omega arith)
      go (Some named) (j, f, at, sum) q = found_at (passes b).0 (passes b).1 f at sum q

  pub found_then : {a : Attribute} → found_of allowance name s ≡ Ok a → FoundIn allowance s name a
  found_then {a} e = go (begun_of allowance s) refl
    where
      go : (x : Result Attributes Refused) → begun_of allowance s ≡ x → FoundIn allowance s name a
      go (Ok c) q = among (began allowance s q) e
      go (Err err) q =
          let p : Err err ≡ Ok a = sym (by_begun q) ∙ e in
          let z : ◌≡◌ {A = ℕ} 0 1 = cc in
          absurd (omega arith)
