-- Laws of writing: a descriptor has 192 bytes, its fields stored each at its place are those, and what a write answers.
use Rattle.std.specs.Prelude.{Result, Ok, Err}
use Rattle.std.specs.Prelude.{ℕ, ◌≤◌, ◌<◌, ◌≡◌, refl, Bool, true, false, ◌↔◌, List, ◌++◌, ltb, length, drop}
use Rattle.std.proofs.Common.{ap, subst, sym, ◌∙◌, arith, lt-ltb, le-ltb, ltb-true, ltb-false}
use Rattle.std.proofs.lemmas.List.Edits.{sets}
use Rattle.refusal.specs.declared.Refusal.{Refusal}
use Rattle.refusal.specs.declared.Refusal.TheVariants.{DataType, NoRoom}
use Rattle.lent.specs.Front.{front_of}
use Rattle.lent.specs.Laws.{front, no_front, whole}
use Rattle.fields.specs.Table.{none, ◌&◌, Stored}
use Rattle.fields.specs.Laws.{Wide, length-joined, stored-joined}
use Rattle.descriptor.specs.declared.Descriptor.{Descriptor}
use Rattle.descriptor.specs.Layout.{fields, width, place, descriptor_size}
use Rattle.descriptor.specs.Places.{places_follow, all-bytes}
use Rattle.descriptor.specs.Descriptor.{field_bytes, descriptor_bytes, written_of, Texts}

-- a descriptor whose arrays have their lengths has fields of the table's widths, and so 192 bytes
module _ (v : Descriptor) (t : Texts v) where
  pub fields-wide : Wide width (field_bytes v) fields
  fields-wide =
      refl & refl & refl & t.0 & refl & refl & t.1 & refl & t.2 & refl & t.3 & refl & t.4 & refl & t.5 & t.6 & none

  pub length_descriptor : length (descriptor_bytes v) ≡ descriptor_size
  unfolding descriptor_bytes
  length_descriptor = length-joined width (field_bytes v) fields fields-wide ∙ all-bytes

-- its fields stored each at its place are its bytes, stored at the front
pub stored-fields : (v : Descriptor) {d r : List ℕ} → Stored width place (field_bytes v) d fields r → r ≡ sets d 0 (descriptor_bytes v)
unfolding descriptor_bytes
stored-fields v st = stored-joined width (field_bytes v) place fields 0 places_follow st

-- what a write answers of a type above 10, and of another
module _ (v : Descriptor) (d : List ℕ) where
  pub type_refused : 10 < v.data_type → written_of v d ≡ (Err DataType, d)
  unfolding written_of
  type_refused h = rw (lt-ltb _ _ h)

  pub type_taken : v.data_type ≤ 10 → written_of v d ≡ front_of (descriptor_bytes v) d
  unfolding written_of
  type_taken h = rw (le-ltb _ _ h)

  -- and then where there is no room, and where there is
  pub no_room : Texts v → v.data_type ≤ 10 → length d < descriptor_size → written_of v d ≡ (Err (NoRoom descriptor_size), d)
  no_room t h l =
      let n = length_descriptor v t in
      type_taken h ∙ no_front (descriptor_bytes v) d (omega arith) ∙ rw n

  pub room : Texts v → v.data_type ≤ 10 → descriptor_size ≤ length d → written_of v d ≡ (Ok descriptor_size, descriptor_bytes v ++ drop descriptor_size d)
  room t h l =
      let n = length_descriptor v t in
      type_taken h ∙ front (descriptor_bytes v) d (omega arith) ∙ rw n

  -- which is what the fields leave, stored
  pub stored_is : {r : List ℕ} → Texts v → descriptor_size ≤ length d → Stored width place (field_bytes v) d fields r → r ≡ descriptor_bytes v ++ drop descriptor_size d
  stored_is t l st = stored-fields v st ∙ whole d (descriptor_bytes v) descriptor_size (length_descriptor v t) l

module _ (v : Descriptor) (d : List ℕ) (t : Texts v) where
  -- the answers of a write, each with what led to it
  data Writes : Result ℕ Refusal → Type 0 where
    untyped : 10 < v.data_type → Writes (Err DataType)
    crowded : v.data_type ≤ 10 → length d < descriptor_size → Writes (Err (NoRoom descriptor_size))
    done : v.data_type ≤ 10 → descriptor_size ≤ length d → Writes (Ok descriptor_size)

  writes : Writes (written_of v d).0
  writes = go (ltb 10 v.data_type) (ltb (length d) descriptor_size) refl refl
    where
      go : (above few : Bool) → ltb 10 v.data_type ≡ above → ltb (length d) descriptor_size ≡ few → Writes (written_of v d).0
      go true few p q = let h = ltb-true _ _ p in rw (type_refused v d h) (untyped h)
      go false true p q = let h = ltb-false _ _ p in let l = ltb-true _ _ q in rw (no_room v d t h l) (crowded h l)
      go false false p q = let h = ltb-false _ _ p in let l = ltb-false _ _ q in rw (room v d t h l) (done h l)

  led : {w : Result ℕ Refusal} {d' : List ℕ} → written_of v d ≡ (w, d') → Writes w
  led p = subst Writes (ap (λ (x : Result ℕ Refusal × List ℕ). x.0) p) writes

  pub refused_for_type : (written_of v d ≡ (Err DataType, d)) ↔ (10 < v.data_type)
  refused_for_type = (λ p. of_untyped (led p), type_refused v d)
    where
      of_untyped : Writes (Err DataType) → 10 < v.data_type
      of_untyped (untyped h) = h

  pub refused_for_room : (written_of v d ≡ (Err (NoRoom descriptor_size), d)) ↔ ((v.data_type ≤ 10) × (length d < descriptor_size))
  refused_for_room = (λ p. of_crowded (led p), λ (h, l). no_room v d t h l)
    where
      of_crowded : Writes (Err (NoRoom descriptor_size)) → (v.data_type ≤ 10) × (length d < descriptor_size)
      of_crowded (crowded h l) = (h, l)

  pub written_exactly : (written_of v d ≡ (Ok descriptor_size, descriptor_bytes v ++ drop descriptor_size d)) ↔ ((v.data_type ≤ 10) × (descriptor_size ≤ length d))
  written_exactly = (λ p. of-done (led p), λ (h, l). room v d t h l)
    where
      of-done : Writes (Ok descriptor_size) → (v.data_type ≤ 10) × (descriptor_size ≤ length d)
      of-done (done h l) = (h, l)

  -- what a count says of what is left, and a refusal
  pub written : {n : ℕ} {d' : List ℕ} → written_of v d ≡ (Ok n, d') → (v.data_type ≤ 10) × (d' ≡ descriptor_bytes v ++ drop descriptor_size d)
  written p = of-done (led p) p
    where
      of-done : {n : ℕ} {d' : List ℕ} → Writes (Ok n) → written_of v d ≡ (Ok n, d') → (v.data_type ≤ 10) × (d' ≡ descriptor_bytes v ++ drop descriptor_size d)
      of-done (done h l) q = (h, ap (λ (x : Result ℕ Refusal × List ℕ). x.1) (sym q ∙ room v d t h l))

  pub untouched : {r : Refusal} {d' : List ℕ} → written_of v d ≡ (Err r, d') → d' ≡ d
  untouched p = of-refused (led p) p
    where
      of-refused : {r : Refusal} {d' : List ℕ} → Writes (Err r) → written_of v d ≡ (Err r, d') → d' ≡ d
      of-refused (untyped h) q = ap (λ (x : Result ℕ Refusal × List ℕ). x.1) (sym q ∙ type_refused v d h)
      of-refused (crowded h l) q = ap (λ (x : Result ℕ Refusal × List ℕ). x.1) (sym q ∙ no_room v d t h l)
