-- When an attribute is refused: document 02, No. 8, "Refusals, in order: file check; no such VLR; data not a multiple of 192; a type above 10;
-- sizes adding up to more than the extra bytes; name not found".
use Rattle.std.specs.Prelude.{Some, None, Ok, Err}
use Rattle.rules.specs.NotAccepted.{not_accepted}
use Rattle.first_vlr.specs.Span.{span}
use Rattle.std.specs.Prelude.{ℕ, ◌+◌, ◌*◌, ◌%◌, ◌≤◌, ◌<◌, ◌≡◌, false, List, take, drop}
use Rattle.refusal.specs.declared.Refusal.{Refusal}
use Rattle.refusal.specs.declared.Refusal.TheVariants.{NoDescriptors, DescriptorBytes, DataType, AttributeSizes, NameNotFound}
use Rattle.format.specs.declared.Field.TheVariants.{ExtraBytes}
use Rattle.format.specs.Fields.{place_of}
use Rattle.descriptor.specs.Descriptor.{type_in}
use Rattle.file.specs.Rules.{checked_of}
use Rattle.file.specs.Points.{point_format}
use Rattle.cursor.specs.Parts.{outline_in}
use Rattle.first_vlr.specs.First.{first_of}
use Rattle.attribute.specs.declared.Attribute.{Attribute}
use Rattle.attribute.specs.Attributes.{lasf_spec, size_in, sizes_of}
use Rattle.attribute.specs.Each.{nth, has, FirstNamed}

module _ (allowance : ℕ) (s : List ℕ) where
  abbrev pub Accepted : Type 0
  Accepted = (records : ℕ) × (checked_of allowance s ≡ Ok records)

  -- the first VLR of the user id LASF_Spec and the record id 4 has n bytes of data from `start` on
  abbrev pub DataAt : ℕ → ℕ → Type 0
  DataAt start n = Accepted × (first_of (outline_in s) lasf_spec 4 s ≡ Some (span start n))

  -- n descriptors one after the other
  abbrev pub descriptors : ℕ → ℕ → List ℕ
  descriptors start n = take (n * 192) (drop start s)

  abbrev pub TypesKnown : ℕ → ℕ → Type 0
  TypesKnown start n = (k : ℕ) → k < n → type_in (nth k (descriptors start n)) ≤ 10

  abbrev pub Fitting : ℕ → ℕ → Type 0
  Fitting start n = TypesKnown start n × (sizes_of n (descriptors start n) ≤ (point_format (outline_in s)).extra_bytes)

  -- the refusals in their order; each but the last is of the attributes themselves
  pub data NoneFor : Refusal → ℕ → Type 0 where
    file_check : {why : Refusal} {j n : ℕ} → checked_of allowance s ≡ Err (not_accepted why j n) → NoneFor why j
    no_such_vlr : Accepted → first_of (outline_in s) lasf_spec 4 s ≡ None → NoneFor NoDescriptors 0
    no_multiple : {start n : ℕ} → DataAt start n → (n % 192 ≡ 0 → ⊥) → NoneFor DescriptorBytes 0
    unknown_type : {start n : ℕ} → DataAt start (n * 192) → (k : ℕ) → k < n → 10 < type_in (nth k (descriptors start n)) → NoneFor DataType 0
    too_long : {start n : ℕ} → DataAt start (n * 192) → TypesKnown start n → (point_format (outline_in s)).extra_bytes < sizes_of n (descriptors start n) → NoneFor AttributeSizes 0

  pub data NotFoundFor (name : List ℕ) : Refusal → ℕ → Type 0 where
    none : {why : Refusal} {j : ℕ} → NoneFor why j → NotFoundFor name why j
    no_name : {start n : ℕ} → DataAt start (n * 192) → Fitting start n → ((k : ℕ) → k < n → has name k (descriptors start n) ≡ false) → NotFoundFor name NameNotFound 0

  -- what is found: the first descriptor with the name, of n that pass the tests; where its value stands in the record, and that it ends within
  -- the extra bytes
  pub record FoundIn (name : List ℕ) (a : Attribute) : Type 0 where
    pub start : ℕ
    pub n : ℕ
    pub vlr : DataAt start (n * 192)
    pub fitting : Fitting start n
    pub j : ℕ
    pub first_named : FirstNamed name n (descriptors start n) j
    pub data_type : a.data_type ≡ type_in (nth j (descriptors start n))
    pub size : a.size ≡ size_in (nth j (descriptors start n))
    pub place : a.at ≡ (outline_in s).offset_to_point_data + (place_of (point_format (outline_in s)) ExtraBytes + sizes_of j (descriptors start n))
    pub within : sizes_of j (descriptors start n) + a.size ≤ (point_format (outline_in s)).extra_bytes
    pub stride : a.stride ≡ (outline_in s).point_data_record_length
    pub count : a.count ≡ (outline_in s).number_of_point_records
