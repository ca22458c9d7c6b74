-- What reading and writing descriptors comes to: document 02, No. 8, "Extra bytes by name".
use Rattle.std.specs.Prelude.{Ok, Err}
use Rattle.std.specs.Prelude.{ℕ, ◌≤◌, ◌<◌, ◌≡◌, refl, ◌↔◌, take, drop}
use Rattle.std.proofs.Math.Path.{ap, sym}
use Rattle.std.proofs.Common.{◌∙◌, arith}
use mathlib.Core.List.{List, [], ◌∷◌, ◌++◌, map}
use Rattle.std.proofs.Math.ListN.{length, length-append}
use Rattle.le.specs.Le.{num, Bytes as IsBytes}
use Rattle.refusal.specs.declared.Refusal.{Refusal}
use Rattle.refusal.specs.declared.Refusal.TheVariants.{Short, DataType, NoRoom}
use Rattle.lent.specs.Front.{front_of}
use Rattle.fields.specs.Table.{Follow, total}
use Rattle.descriptor.specs.declared.Descriptor.{Descriptor}
use Rattle.descriptor.specs.Layout.{fields, width, place}
use Rattle.descriptor.specs.Sizes.{size_of, above_ten}
use Rattle.descriptor.specs.Descriptor.{type_in, descriptor_of, read_of, descriptor_bytes, written_of, Texts, Typed}
use Rattle.descriptor.specs.Places as places
use Rattle.descriptor.specs.Laws as read
use Rattle.descriptor.specs.Written as written
use Rattle.descriptor.specs.Cut as cut
use Rattle.descriptor.specs.Back.{bytes_back, fields_again}

-- "descriptors of 192 bytes": the standard's fields follow each other without gap or overlap, and have as many together.
pub places_follow : Follow width place 0 fields
places_follow = places.places_follow

pub all-bytes : total width fields ≡ 192
all-bytes = places.all-bytes

-- "Types 1 to 10 are u8, i8, u16, i16, u32, i32, u64, i64, f32, f64; type 0 takes its byte count from options."
pub sizes : (options : ℕ) → map (λ (type : ℕ). size_of type options) (0 ∷ 1 ∷ 2 ∷ 3 ∷ 4 ∷ 5 ∷ 6 ∷ 7 ∷ 8 ∷ 9 ∷ 10 ∷ 11 ∷ []) ≡ options ∷ 1 ∷ 1 ∷ 2 ∷ 2 ∷ 4 ∷ 4 ∷ 8 ∷ 8 ∷ 4 ∷ 8 ∷ 0 ∷ []
unfolding size_of
sizes options = refl

-- A type above 10 has no bytes.
pub no_size : (type options : ℕ) → 10 < type → size_of type options ≡ 0
no_size = above_ten

module _ (s : List ℕ) where
  -- "Read .. the descriptors": one is read exactly where its bytes are there and its type is not above 10,
  pub read_exactly : (v : Descriptor) → (read_of s ≡ Ok v) ↔ (((192 ≤ length s) × (type_in s ≤ 10)) × (v ≡ descriptor_of s))
  read_exactly v =
      (λ e. let q = read.read_says s e in (read.accepted s q.0, q.1), λ (h, is). read.read_whole s ((read.read_exactly s).1 h) ∙ ap Ok (sym is))

  -- and refused with 1 exactly where they are not, and with 39 exactly where they are and its type is above 10.
  pub short_exactly : (read_of s ≡ Err (Short 192)) ↔ (length s < 192)
  short_exactly = (λ e. (read.short_exactly s).0 (read.refused_says s e), λ h. read.read_refused s ((read.short_exactly s).1 h))

  pub type_exactly : (read_of s ≡ Err DataType) ↔ ((192 ≤ length s) × (10 < type_in s))
  type_exactly = (λ e. (read.type_exactly s).0 (read.refused_says s e), λ h. read.read_refused s ((read.type_exactly s).1 h))

  -- "type at byte 2, options at byte 3, name in 32 bytes from byte 4"
  pub stands_at : {v : Descriptor} → read_of s ≡ Ok v → (v.data_type ≡ num 1 2 s) × (v.options ≡ num 1 3 s) × (v.name ≡ take 32 (drop 4 s))
  stands_at e = (read.type_read s e, read.options_read s e, read.name_read s e)

  -- What lies past its bytes is not looked at.
  pub never_past : read_of (take 192 s) ≡ read_of s
  never_past = cut.never_past s

  -- "Read and write": what is read, written, is the bytes that were read.
  pub written_back : (d : List ℕ) {v : Descriptor} → IsBytes s → read_of s ≡ Ok v → written_of v d ≡ front_of (take 192 s) d
  unfolding descriptor_of
  written_back d b e =
      let says = read.read_says s e in
      let q = read.accepted s says.0 in
      rw says.1 (written.type_taken (descriptor_of s) d q.1 ∙ ap (λ (bs : List ℕ). front_of bs d) (bytes_back s b q.0))

module _ (v : Descriptor) (d : List ℕ) where
  -- What is written, read again, is the descriptor.
  pub read_again : {n : ℕ} {d' : List ℕ} → Typed v → written_of v d ≡ (Ok n, d') → read_of d' ≡ Ok v
  unfolding descriptor_of
  read_again {d' = d'} w p =
      let q = written.written v d w.texts p in
      let same : descriptor_of d' ≡ v = rw q.1 (fields_again v (drop 192 d) w) in
      let long : 192 ≤ length d' = omega (arith, ap length q.1 ∙ length-append (descriptor_bytes v) (drop 192 d), written.length_descriptor v w.texts) in
      let type : type_in d' ≤ 10 = omega (arith, q.0, ap (λ (x : Descriptor). x.data_type) same) in
      read.read_whole d' (read.all_there d' long type) ∙ ap Ok same

  -- "when writing descriptors, a type above 10, then no room": each exactly so, and the rest is written; what lies past it stays.
  module _ (t : Texts v) where
    pub refused_for_type : (written_of v d ≡ (Err DataType, d)) ↔ (10 < v.data_type)
    refused_for_type = written.refused_for_type v d t

    pub refused_for_room : (written_of v d ≡ (Err (NoRoom 192), d)) ↔ ((v.data_type ≤ 10) × (length d < 192))
    refused_for_room = written.refused_for_room v d t

    pub written_exactly : (written_of v d ≡ (Ok 192, descriptor_bytes v ++ drop 192 d)) ↔ ((v.data_type ≤ 10) × (192 ≤ length d))
    written_exactly = written.written_exactly v d t

    -- A refused write leaves the destination as it was.
    pub untouched : {r : Refusal} {d' : List ℕ} → written_of v d ≡ (Err r, d') → d' ≡ d
    untouched p = written.untouched v d t p
