-- What reading and writing a descriptor answers, from the table of Layout and document 02, No. 8.
use Rattle.std.specs.Prelude.{Result, Ok, Err}
use Rattle.refusal.specs.declared.Refusal.{Refusal}
use Rattle.std.specs.Prelude.{ℕ, ◌^◌, ◌<◌, ◌≡◌, cond, List, [], ◌∷◌, length, replicate, ltb}
use Rattle.le.specs.Le.{num, bytes}
use Rattle.refusal.specs.declared.Refusal.TheVariants as refusal
use Rattle.lent.specs.Front.{front_of}
use Rattle.fields.specs.Table.{joined, part}
use Rattle.descriptor.specs.declared.Descriptor.{Descriptor}
use Rattle.descriptor.specs.Layout.{Field, Reserved, DataType, Options, Name, Unused, NoData, Deprecated1, Min, Deprecated2, Max, Deprecated3, Scale, Deprecated4, Offset, Deprecated5, Description, fields, width, place, descriptor_size}

-- the number, or the bytes, that s has in the place of a field
abbrev pub number_in : Field → List ℕ → ℕ
number_in f s = num (width f) (place f) s

abbrev pub bytes_in : Field → List ℕ → List ℕ
bytes_in f s = part (width f) (place f) s

-- "type at byte 2, options at byte 3, name in 32 bytes from byte 4"
abbrev pub type_in : List ℕ → ℕ
type_in = number_in DataType

abbrev pub options_in : List ℕ → ℕ
options_in = number_in Options

abbrev pub name_in : List ℕ → List ℕ
name_in = bytes_in Name

-- the descriptor whose bytes are at the start of s
unfoldable pub descriptor_of : List ℕ → Descriptor
descriptor_of s =
    record {
      reserved = number_in Reserved s;
      data_type = type_in s;
      options = options_in s;
      name = name_in s;
      unused = number_in Unused s;
      no_data = number_in NoData s;
      deprecated1 = bytes_in Deprecated1 s;
      min = number_in Min s;
      deprecated2 = bytes_in Deprecated2 s;
      max = number_in Max s;
      deprecated3 = bytes_in Deprecated3 s;
      scale = number_in Scale s;
      deprecated4 = bytes_in Deprecated4 s;
      offset = number_in Offset s;
      deprecated5 = bytes_in Deprecated5 s;
      description = bytes_in Description s;
    }

-- a descriptor of zeros
unfoldable pub no_descriptor : Descriptor
no_descriptor =
    record {
      reserved = 0;
      data_type = 0;
      options = 0;
      name = replicate 32 0;
      unused = 0;
      no_data = 0;
      deprecated1 = replicate 16 0;
      min = 0;
      deprecated2 = replicate 16 0;
      max = 0;
      deprecated3 = replicate 16 0;
      scale = 0;
      deprecated4 = replicate 16 0;
      offset = 0;
      deprecated5 = replicate 16 0;
      description = replicate 32 0;
    }

-- refusal 1 where the bytes are not all there, then 39 where the type is above 10
unfoldable pub described_of : List ℕ → Result Unit Refusal
described_of s =
    cond (ltb (length s) descriptor_size) (Err (refusal.Short descriptor_size))
    (cond (ltb 10 (type_in s)) (Err refusal.DataType) (Ok tt))

-- the descriptor, or what it is refused for
abbrev pub read_by : Descriptor → Result Unit Refusal → Result Descriptor Refusal
read_by v (Ok tt) = Ok v
read_by v (Err r) = Err r

unfoldable pub read_of : List ℕ → Result Descriptor Refusal
read_of s = read_by (descriptor_of s) (described_of s)

-- the bytes of a field of v
abbrev pub field_bytes : Descriptor → Field → List ℕ
field_bytes v Reserved = bytes 2 v.reserved
field_bytes v DataType = v.data_type ∷ []
field_bytes v Options = v.options ∷ []
field_bytes v Name = v.name
field_bytes v Unused = bytes 4 v.unused
field_bytes v NoData = bytes 8 v.no_data
field_bytes v Deprecated1 = v.deprecated1
field_bytes v Min = bytes 8 v.min
field_bytes v Deprecated2 = v.deprecated2
field_bytes v Max = bytes 8 v.max
field_bytes v Deprecated3 = v.deprecated3
field_bytes v Scale = bytes 8 v.scale
field_bytes v Deprecated4 = v.deprecated4
field_bytes v Offset = bytes 8 v.offset
field_bytes v Deprecated5 = v.deprecated5
field_bytes v Description = v.description

-- the bytes of v
unfoldable pub descriptor_bytes : Descriptor → List ℕ
descriptor_bytes v = joined (field_bytes v) fields

-- "when writing descriptors, a type above 10, then no room"
unfoldable pub written_of : Descriptor → List ℕ → Result ℕ Refusal × List ℕ
written_of v d = cond (ltb 10 v.data_type) (Err refusal.DataType, d) (front_of (descriptor_bytes v) d)

-- what the types say of a descriptor: arrays of their lengths, numbers in their widths
abbrev pub Texts : Descriptor → Type 0
Texts v =
    (length v.name ≡ width Name) × (length v.deprecated1 ≡ width Deprecated1) × (length v.deprecated2 ≡ width Deprecated2)
    × (length v.deprecated3 ≡ width Deprecated3) × (length v.deprecated4 ≡ width Deprecated4)
    × (length v.deprecated5 ≡ width Deprecated5) × (length v.description ≡ width Description)

pub record Typed (v : Descriptor) : Type 0 where
  pub texts : Texts v
  pub reserved : v.reserved < 256 ^ width Reserved
  pub unused : v.unused < 256 ^ width Unused
  pub no-data : v.no_data < 256 ^ width NoData
  pub min : v.min < 256 ^ width Min
  pub max : v.max < 256 ^ width Max
  pub scale : v.scale < 256 ^ width Scale
  pub offset : v.offset < 256 ^ width Offset
