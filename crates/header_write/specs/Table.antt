-- Laws over the field table of a version, and the block that is stored by it.
use Rattle.std.specs.Prelude.{ℕ, ◌≡◌, refl, List, length}
use Rattle.std.proofs.lemmas.List.Edits.{sets}
use Rattle.fields.specs.Table.{Follow, All, Stored}
use Rattle.fields.specs.Laws.{split, length-joined, stored-joined, stored-wide}
use Rattle.header.specs.declared.Header.{Header}
use Rattle.header.specs.Layout.{Field, place, width, fields12, fields13, fields14, fields_of, size}
use Rattle.header.specs.Laws.{by_version}
use Rattle.header_write.specs.Bytes.{field_bytes, block}

-- what holds of all fields holds of those that a version has
pub each : {P : Field → Type 0} (m : ℕ) → All P fields14 → All P (fields_of m)
each {P} m a =
    let old = (split fields13 _ a).0 in
    by_version (All P) m (λ h. (split fields12 _ old).0) (λ h. old) (λ h. a)

-- the fields of a version follow each other from 0 on
pub follows : (m : ℕ) → Follow width place 0 (fields_of m)
follows m = by_version (Follow width place 0) m (λ h. refl) (λ h. refl) (λ h. refl)

-- the block of a header, stored at the front
module _ (h : Header) {d e : List ℕ} (p : Stored width place (field_bytes h) d (fields_of h.version.minor) e) where
  pub stored-block : e ≡ sets d 0 (block h)
  unfolding block
  stored-block = stored-joined width (field_bytes h) place (fields_of h.version.minor) 0 (follows h.version.minor) p

  pub length-block : length (block h) ≡ size (fields_of h.version.minor)
  unfolding block
  length-block = length-joined width (field_bytes h) (fields_of h.version.minor) (stored-wide width (field_bytes h) place p)
