-- The attributes of a file: document 02, No. 8, "The standard describes them in the VLR with user id LASF_Spec and record 4: descriptors of
-- 192 bytes, type at byte 2, options at byte 3, name in 32 bytes from byte 4."
use Rattle.std.specs.Prelude.{Option, Some, None, Result, Ok, Err}
use Rattle.refusal.specs.Refused.{at_record}
use Rattle.refusal.specs.declared.Refused.{Refused}
use Rattle.first_vlr.specs.declared.Span.{Span}
use Rattle.std.specs.Prelude.{ℕ, zero, suc, ◌+◌, ◌-◌, ◌/◌, ◌%◌, Bool, true, cond, ◌&&◌, List, [], ◌∷◌, eqb, ltb, leb, length, take, drop}
use Rattle.refusal.specs.declared.Refusal.TheVariants.{NoDescriptors, DescriptorBytes, DataType, AttributeSizes}
use Rattle.format.specs.declared.Field.TheVariants.{ExtraBytes}
use Rattle.format.specs.Fields.{place_of}
use Rattle.descriptor.specs.Layout.{descriptor_size}
use Rattle.descriptor.specs.Sizes.{size_of}
use Rattle.descriptor.specs.Descriptor.{type_in, options_in}
use Rattle.outline.specs.declared.Outline.{Outline}
use Rattle.file.specs.Points.{point_format}
use Rattle.first_vlr.specs.First.{opened_of, first_of}
use Rattle.attribute.specs.declared.Attribute.{Attribute}
use Rattle.attribute.specs.declared.Attributes.{Attributes}
use Rattle.attribute.specs.declared.Step.{Step}

-- the bytes of a value, by the descriptor at the start of d, and by the one at a place of s
unfoldable pub size_in : List ℕ → ℕ
size_in d = size_of (type_in d) (options_in d)

abbrev pub size_at : ℕ → List ℕ → ℕ
size_at at s = size_in (drop at s)

-- "a type above 10", of any of n descriptors one after the other
unfoldable pub types_known : ℕ → List ℕ → Bool
types_known zero d = true
types_known (suc n) d = leb (type_in d) 10 && types_known n (drop descriptor_size d)

-- "sizes adding up"
unfoldable pub sizes_of : ℕ → List ℕ → ℕ
sizes_of zero d = 0
sizes_of (suc n) d = size_in d + sizes_of n (drop descriptor_size d)

-- the place before the first of n attributes whose descriptors start there: the values follow the fields of the points' format, from point
-- to point by the header's record length
unfoldable pub before_first : Outline → ℕ → ℕ → Attributes
before_first o start n =
    record {
      descriptor = start;
      left = n;
      at = o.offset_to_point_data + place_of (point_format o) ExtraBytes;
      stride = o.point_data_record_length;
      count = o.number_of_point_records;
    }

-- "data not a multiple of 192; a type above 10; sizes adding up to more than the extra bytes", each over all descriptors
unfoldable pub described_in : Outline → ℕ → List ℕ → Result Attributes Refused
described_in o start d =
    let n = length d / descriptor_size in
    cond (eqb (length d % descriptor_size) 0)
    (cond (types_known n d)
    (cond (leb (sizes_of n d) (point_format o).extra_bytes) (Ok (before_first o start n)) (Err (at_record AttributeSizes 0)))
    (Err (at_record DataType 0)))
    (Err (at_record DescriptorBytes 0))

-- "LASF_Spec"
abbrev pub lasf_spec : List ℕ
lasf_spec = 76 ∷ 65 ∷ 83 ∷ 70 ∷ 95 ∷ 83 ∷ 112 ∷ 101 ∷ 99 ∷ []

-- "no such VLR"; "The first such VLR counts"
abbrev pub begun_by : Outline → List ℕ → Option Span → Result Attributes Refused
begun_by o s (Some at) = described_in o at.start (take at.length (drop at.start s))
begun_by o s None = Err (at_record NoDescriptors 0)

unfoldable pub begun_in : Outline → List ℕ → Result Attributes Refused
begun_in o s = begun_by o s (first_of o lasf_spec 4 s)

-- "Refusals, in order: file check; .."
abbrev pub begun_after : List ℕ → Result Outline Refused → Result Attributes Refused
begun_after s (Ok o) = begun_in o s
begun_after s (Err err) = Err err

unfoldable pub begun_of : ℕ → List ℕ → Result Attributes Refused
begun_of allowance s = begun_after s (opened_of allowance s)

-- whether there is an attribute at a place; none at one whose descriptor or whose values no file has
unfoldable pub has_next : List ℕ → Attributes → Bool
has_next s c = ltb 0 c.left && (leb (c.descriptor + descriptor_size) (length s) && leb c.at 9223372036854775807)

-- the attribute whose descriptor stands there in s, and whose first value stands at `at`
unfoldable pub attribute_at : List ℕ → ℕ → ℕ → Attributes → Attribute
attribute_at s descriptor at c =
    record { data_type = type_in (drop descriptor s); size = size_at descriptor s; at = at; stride = c.stride; count = c.count }

-- the place after it: the next descriptor, and the next value of each point
unfoldable pub after : List ℕ → Attributes → Attributes
after s c =
    record {
      descriptor = c.descriptor + descriptor_size;
      left = c.left - 1;
      at = c.at + size_at c.descriptor s;
      stride = c.stride;
      count = c.count;
    }

-- an attribute, where its descriptor stands, and the place after it
abbrev pub step_of : Attribute → ℕ → Attributes → Step
step_of a d c = record { attribute = a; descriptor = d; next = c }

unfoldable pub next_of : List ℕ → Attributes → Option Step
next_of s c = cond (has_next s c) (Some (step_of (attribute_at s c.descriptor c.at c) c.descriptor (after s c))) None
