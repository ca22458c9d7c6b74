-- What is promised of attributes: document 02, No. 8.
use Rattle.std.specs.Prelude.{None, Ok, Err}
use Rattle.refusal.specs.Refused.{at_record}
use Rattle.std.specs.Prelude.{ℕ, ◌+◌, ◌*◌, ◌≤◌, ◌<◌, ◌≡◌, List, take, drop, length}
use Rattle.std.proofs.Common.{◌∙◌, zero-mul, arith}
use Rattle.std.proofs.Math.Nat.{add-zero, sub-zero}
use Rattle.le.specs.Le.{Bytes}
use Rattle.refusal.specs.declared.Refusal.{Refusal}
use Rattle.format.specs.declared.Field.TheVariants.{ExtraBytes}
use Rattle.format.specs.Fields.{place_of}
use Rattle.format.specs.Laws.{fixed_le}
use Rattle.descriptor.specs.Descriptor.{type_in}
use Rattle.outline.specs.declared.Outline.{Outline}
use Rattle.file.specs.Points.{point_format, offset_fits}
use Rattle.cursor.specs.Parts.{outline_in}
use Rattle.attribute.specs.declared.Attribute.{Attribute}
use Rattle.attribute.specs.declared.Attributes.{Attributes}
use Rattle.attribute.specs.Attributes.{size_in, sizes_of, before_first, begun_of, next_of}
use Rattle.attribute.specs.Find.{found_of}
use Rattle.attribute.specs.Each.{nth}
use Rattle.attribute.specs.Exact.{NoneFor, NotFoundFor, FoundIn}
use Rattle.attribute.specs.Ready.{Began, extra_small}
use Rattle.attribute.specs.Turn.{walked, Tells, before, tells, stops}
use Rattle.attribute.specs.Told.{then_none, none_then}
use Rattle.attribute.specs.Named.{then_not_found, not_found_then, found_then}

module _ (allowance : ℕ) (s : List ℕ) {why : Refusal} {j : ℕ} where
  -- "Refusals, in order: file check; no such VLR; data not a multiple of 192; a type above 10; sizes adding up to more than the extra bytes":
  -- a file has no attributes exactly where one of these holds, and none before it. Each is over all descriptors, so that a broken later one
  -- refuses an earlier name.
  pub none_exactly : (begun_of allowance s ≡ Err (at_record why j) → NoneFor allowance s why j) × (NoneFor allowance s why j → begun_of allowance s ≡ Err (at_record why j))
  none_exactly = (none_then allowance s, then_none allowance s)

  -- ".. name not found": and none is found exactly where it has none, or none of them has the name.
  pub not_found_exactly : (name : List ℕ) → (found_of allowance name s ≡ Err (at_record why j) → NotFoundFor allowance s name why j) × (NotFoundFor allowance s name why j → found_of allowance name s ≡ Err (at_record why j))
  not_found_exactly name = (not_found_then allowance name s, then_not_found allowance name s)

-- "find an attribute by its name, zeros filling it to 32 bytes"; "The first such VLR counts; of equal names, the first": what is found is of the
-- first descriptor with the name; its value stands behind the values before it, and ends within the extra bytes.
pub found : (allowance : ℕ) (s name : List ℕ) {a : Attribute} → found_of allowance name s ≡ Ok a → FoundIn allowance s name a
found allowance s name = found_then allowance name s

-- "give its value in any point": the attributes of a file are told one after the other, as its descriptors stand, each with the place of its value
-- in the record; after the last there is none. (A file that can be lent is no longer than the bound says.)
module _ (allowance : ℕ) (s : List ℕ) (bytes : Bytes s) (lent : length s + 65602 ≤ 9223372036854775807) {c : Attributes} (b : Began allowance s c) where
  abbrev o : Outline
  o = outline_in s

  abbrev d : List ℕ
  d = take (b.n * 192) (drop b.start s)

  abbrev first : ℕ
  first = o.offset_to_point_data + place_of (point_format o) ExtraBytes

  is_first : c ≡ before s b.start b.n first o.point_data_record_length o.number_of_point_records b.within 0
  unfolding before_first sizes_of
  is_first = b.place ∙ simp (zero-mul, add-zero, sub-zero)

  near : first + sizes_of b.n d ≤ 9223372036854775807
  near = omega (arith, offset_fits s bytes, fixed_le (point_format o), b.sizes, extra_small allowance s bytes b)

  pub in_turn : (k : ℕ) → k < b.n → Tells (next_of s (walked k s c)) (b.start + k * 192) (record { data_type = type_in (nth k d); size = size_in (nth k d); at = first + sizes_of k d; stride = o.point_data_record_length; count = o.number_of_point_records })
  in_turn k h = rw is_first (tells s b.start b.n first o.point_data_record_length o.number_of_point_records b.within near k h)

  pub at_the_end : next_of s (walked b.n s c) ≡ None
  at_the_end = rw is_first (stops s b.start b.n first o.point_data_record_length o.number_of_point_records b.within near)
