-- A descriptor that was read is written as it stood, and one that was written is read again.
use Rattle.std.specs.Prelude.{ℕ, ◌+◌, ◌≤◌, ◌≡◌, List, ◌++◌, length, take, drop}
use Rattle.std.proofs.Math.Path.{refl}
use Rattle.std.proofs.Common.{arith, length-drop, length-take-le}
use Rattle.le.specs.Le.{Bytes as IsBytes}
use Rattle.le.specs.Laws.{byte_num, num_byte, num-lt, bytes-num, num-bytes}
use Rattle.fields.specs.Table.{All, none, ◌&◌}
use Rattle.fields.specs.Laws.{every, joined-parts, parts-joined}
use Rattle.descriptor.specs.declared.Descriptor.{Descriptor}
use Rattle.descriptor.specs.Layout.{Field, Reserved, DataType, Options, Name, Unused, NoData, Deprecated1, Min, Deprecated2, Max, Deprecated3, Scale, Deprecated4, Offset, Deprecated5, Description, fields, width, place, descriptor_size}
use Rattle.descriptor.specs.Places.{places_follow}
use Rattle.descriptor.specs.Descriptor.{bytes_in, descriptor_of, field_bytes, descriptor_bytes, Typed}
use Rattle.descriptor.specs.Written.{fields-wide}

module _ (s : List ℕ) (b : IsBytes s) where
  -- each field of a descriptor that was read is written as it stood
  field_back : (f : Field) → place f + width f ≤ length s → field_bytes (descriptor_of s) f ≡ bytes_in f s
  unfolding descriptor_of
  field_back Reserved h = bytes-num 2 0 s b h
  field_back DataType h = byte_num s 2 h
  field_back Options h = byte_num s 3 h
  field_back Name h = refl
  field_back Unused h = bytes-num 4 36 s b h
  field_back NoData h = bytes-num 8 40 s b h
  field_back Deprecated1 h = refl
  field_back Min h = bytes-num 8 64 s b h
  field_back Deprecated2 h = refl
  field_back Max h = bytes-num 8 88 s b h
  field_back Deprecated3 h = refl
  field_back Scale h = bytes-num 8 112 s b h
  field_back Deprecated4 h = refl
  field_back Offset h = bytes-num 8 136 s b h
  field_back Deprecated5 h = refl
  field_back Description h = refl

  -- and so are all its bytes
  pub bytes_back : descriptor_size ≤ length s → descriptor_bytes (descriptor_of s) ≡ take descriptor_size s
  unfolding descriptor_bytes
  bytes_back h = joined-parts width _ place s fields 0 places_follow h (every field_back fields)

  -- it is one of the types
  text : (f : Field) → place f + width f ≤ length s → length (bytes_in f s) ≡ width f
  text f h = length-take-le (width f) (drop (place f) s) (simp length-drop (omega arith))

  pub typed : descriptor_size ≤ length s → Typed (descriptor_of s)
  unfolding descriptor_of
  typed h =
      record {
        texts = (
          text Name (omega arith),
          text Deprecated1 (omega arith),
          text Deprecated2 (omega arith),
          text Deprecated3 (omega arith),
          text Deprecated4 (omega arith),
          text Deprecated5 (omega arith),
          text Description (omega arith),
        );
        reserved = num-lt 2 s 0 b;
        unused = num-lt 4 s 36 b;
        no-data = num-lt 8 s 40 b;
        min = num-lt 8 s 64 b;
        max = num-lt 8 s 88 b;
        scale = num-lt 8 s 112 b;
        offset = num-lt 8 s 136 b;
      }

-- a descriptor that was written, read again
pub fields_again : (v : Descriptor) (rest : List ℕ) → Typed v → descriptor_of (descriptor_bytes v ++ rest) ≡ v
unfolding descriptor_of descriptor_bytes
fields_again v rest w = each (parts-joined width (field_bytes v) place (descriptor_bytes v ++ rest) fields 0 rest places_follow (fields-wide v w.texts) refl)
  where
    each : All (λ (f : Field). bytes_in f (descriptor_bytes v ++ rest) ≡ field_bytes v f) fields → descriptor_of (descriptor_bytes v ++ rest) ≡ v
    each (reserved & type & options & name & unused & none-there & d1 & min & d2 & max & d3 & scale & d4 & offset & d5 & description & none) =
        let t = descriptor_bytes v ++ rest in
        λ i. record {
          reserved = num-bytes 2 0 t v.reserved w.reserved reserved i;
          data_type = num_byte t 2 v.data_type type i;
          options = num_byte t 3 v.options options i;
          name = name i;
          unused = num-bytes 4 36 t v.unused w.unused unused i;
          no_data = num-bytes 8 40 t v.no_data w.no-data none-there i;
          deprecated1 = d1 i;
          min = num-bytes 8 64 t v.min w.min min i;
          deprecated2 = d2 i;
          max = num-bytes 8 88 t v.max w.max max i;
          deprecated3 = d3 i;
          scale = num-bytes 8 112 t v.scale w.scale scale i;
          deprecated4 = d4 i;
          offset = num-bytes 8 136 t v.offset w.offset offset i;
          deprecated5 = d5 i;
          description = description i;
        }
