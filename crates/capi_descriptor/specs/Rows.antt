-- A descriptor's nine numbers and three texts, both ways, and the row of its read.
use Rattle.refusal.specs.declared.Refusal.{Refusal}
use Rattle.std.specs.Prelude.{ℕ, ◌%◌, cond, List, [], ◌∷◌, ltb, get_or, Result, Ok, Err}
use Rattle.fields.specs.Table.{joined, part}
use Rattle.words.specs.Rows.{refused_row}
use Rattle.descriptor.specs.declared.Descriptor.{Descriptor}
use Rattle.descriptor.specs.Layout.{Field, Deprecated1, Deprecated2, Deprecated3, Deprecated4, Deprecated5}
use Rattle.descriptor.specs.Descriptor.{field_bytes}

-- reserved, data type, options and unused; no data, min, max, scale and offset
unfoldable pub numbers_of : Descriptor → List ℕ
numbers_of v =
    v.reserved ∷ v.data_type ∷ v.options ∷ v.unused ∷
    v.no_data ∷ v.min ∷ v.max ∷ v.scale ∷ v.offset ∷ []

-- the bytes of the deprecated fields, one after the other
abbrev pub deprecated_fields : List Field
deprecated_fields = Deprecated1 ∷ Deprecated2 ∷ Deprecated3 ∷ Deprecated4 ∷ Deprecated5 ∷ []

unfoldable pub deprecated_of : Descriptor → List ℕ
deprecated_of v = joined (field_bytes v) deprecated_fields

-- what the caller lends for a descriptor: the numbers, the name, the deprecated fields and the description
abbrev pub Lent : Type 0
Lent = List ℕ × List ℕ × List ℕ × List ℕ

abbrev pub lent_of : Descriptor → Lent
lent_of v = (numbers_of v, v.name, deprecated_of v, v.description)

-- a read's row, whose value is the bytes of a descriptor, and what was lent, which a refusal leaves
abbrev pub read_row : Lent → Result Descriptor Refusal → List ℕ × Lent
read_row lent (Ok v) = (0 ∷ 192 ∷ 0 ∷ [], lent_of v)
read_row lent (Err r) = (refused_row r 0, lent)

-- a type, held at 255, so that it is refused where it is wider than its field
unfoldable pub type_from : ℕ → ℕ
type_from n = cond (ltb 255 n) 255 n

-- the descriptor of nine numbers and three texts; of another number too wide the low bits count
unfoldable pub descriptor_from : List ℕ → List ℕ → List ℕ → List ℕ → Descriptor
descriptor_from n name deprecated description =
    record {
      reserved = get_or n 0 0 % 65536;
      data_type = type_from (get_or n 1 0);
      options = get_or n 2 0 % 256;
      name = name;
      unused = get_or n 3 0 % 4294967296;
      no_data = get_or n 4 0;
      deprecated1 = part 16 0 deprecated;
      min = get_or n 5 0;
      deprecated2 = part 16 16 deprecated;
      max = get_or n 6 0;
      deprecated3 = part 16 32 deprecated;
      scale = get_or n 7 0;
      deprecated4 = part 16 48 deprecated;
      offset = get_or n 8 0;
      deprecated5 = part 16 64 deprecated;
      description = description;
    }
