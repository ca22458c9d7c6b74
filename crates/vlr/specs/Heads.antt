-- A head that was read is written as it stood, and one that was written is read again.
use Rattle.std.specs.Prelude.{Ok}
use Rattle.std.specs.Prelude.{ℕ, ◌+◌, ◌^◌, ◌≤◌, ◌<◌, ◌≡◌, Bool, true, false, List, ◌++◌, length, take, drop}
use Rattle.std.proofs.Math.Path.{refl}
use Rattle.std.proofs.Common.{ap, ◌∙◌, append_assoc, arith, length-append, length-drop, take-add, length-take-le}
use Rattle.std.proofs.Math.Seq.{take-append_seam, drop-append_seam}
use Rattle.le.specs.Le.{Bytes as IsBytes}
use Rattle.le.specs.Laws.{num-lt, bytes-num, num-bytes}
use Rattle.vlr.specs.declared.RecordLength.{RecordLength}
use Rattle.vlr.specs.declared.RecordLength.TheVariants as kind
use Rattle.vlr.specs.declared.Vlr.{Vlr}
use Rattle.fields.specs.Table.{part, All, none, ◌&◌}
use Rattle.fields.specs.Laws.{every, joined-parts, parts-joined}
use Rattle.vlr.specs.Layout.{Field, Reserved, UserId, RecordId, LengthAfterHeader, Description, fields, width, place, head_size}
use Rattle.vlr.specs.Places.{places_follow, head-sizes, description_last}
use Rattle.vlr.specs.Vlr.{data_length, is_extended, is_evlr, bytes_in, length_of, vlr_of, extent_of, read_of, data_of, length_bytes, field_bytes, head_bytes, Typed}
use Rattle.vlr.specs.Laws.{Whole, head-wide, length-head, takes, read_whole}

pub kind_read : (extended : Bool) (s : List ℕ) → is_extended (length_of extended s) ≡ extended
kind_read true s = refl
kind_read false s = refl

module _ (s : List ℕ) (b : IsBytes s) where
  length_back : (extended : Bool) → 20 + width extended LengthAfterHeader ≤ length s → length_bytes (length_of extended s) ≡ bytes_in extended LengthAfterHeader s
  length_back true h = bytes-num 8 20 s b h
  length_back false h = bytes-num 2 20 s b h

  -- each field of a head that was read is written as it stood
  field_back : (extended : Bool) (f : Field) → place extended f + width extended f ≤ length s → field_bytes (vlr_of extended s) f ≡ bytes_in extended f s
  unfolding vlr_of
  field_back extended Reserved h = bytes-num 2 0 s b h
  field_back extended UserId h = refl
  field_back extended RecordId h = bytes-num 2 18 s b h
  field_back extended LengthAfterHeader h = length_back extended h
  field_back extended Description h = refl

  pub head_back : (extended : Bool) → head_size extended ≤ length s → head_bytes (vlr_of extended s) ≡ take (head_size extended) s
  unfolding head_bytes
  head_back extended h =
      joined-parts (width extended) _ (place extended) s fields 0 (places_follow extended) (omega (arith, head-sizes extended)) (every (field_back extended) fields)
      ∙ rw head-sizes

-- head and data of a whole record are its bytes
pub record_back : (extended : Bool) (s : List ℕ) (n : ℕ) → IsBytes s → Whole extended s n → head_bytes (vlr_of extended s) ++ part (data_length (length_of extended s)) (head_size extended) s ≡ take n s
record_back extended s n b w = rw (head_back s b extended (omega arith), w.size, take-add)

-- a record that was read is one of the Rust's types
pub typed : (extended : Bool) (s : List ℕ) → IsBytes s → head_size extended ≤ length s → Typed (vlr_of extended s)
unfolding vlr_of
typed extended s b h =
    record {
      reserved = num-lt 2 s 0 b;
      user_id = length-take-le 16 (drop 2 s) (simp length-drop (omega (arith, head-sizes extended)));
      record_id = num-lt 2 s 18 b;
      stated = below extended;
      description = length-take-le 32 (drop (place extended Description) s) (simp length-drop (omega (arith, description_last extended)));
    }
  where
    below : (e : Bool) → data_length (length_of e s) < 256 ^ width (is_extended (length_of e s)) LengthAfterHeader
    below true = num-lt 8 s 20 b
    below false = num-lt 2 s 20 b

length_again : (n : RecordLength) (t : List ℕ) → data_length n < 256 ^ width (is_extended n) LengthAfterHeader → bytes_in (is_extended n) LengthAfterHeader t ≡ length_bytes n → length_of (is_extended n) t ≡ n
length_again (kind.Vlr n) t h e = ap kind.Vlr (num-bytes 2 20 t n h e)
length_again (kind.Evlr n) t h e = ap kind.Evlr (num-bytes 8 20 t n h e)

-- a head that was written, read again
pub head_again : (v : Vlr) (rest : List ℕ) → Typed v → vlr_of (is_evlr v) (head_bytes v ++ rest) ≡ v
unfolding vlr_of head_bytes
head_again v rest w =
    let e = is_evlr v in
    let t = head_bytes v ++ rest in
    fields_again (parts-joined (width e) (field_bytes v) (place e) t fields 0 rest (places_follow e) (head-wide v w.user_id w.description) refl)
  where
    fields_again : All (λ (f : Field). bytes_in (is_evlr v) f (head_bytes v ++ rest) ≡ field_bytes v f) fields → vlr_of (is_evlr v) (head_bytes v ++ rest) ≡ v
    fields_again (reserved & id & record_id & stated & text & none) =
        let t = head_bytes v ++ rest in
        λ i. record {
          reserved = num-bytes 2 0 t v.reserved w.reserved reserved i;
          user_id = id i;
          record_id = num-bytes 2 18 t v.record_id w.record_id record_id i;
          record_length_after_header = length_again v.record_length_after_header t w.stated stated i;
          description = text i;
        }

-- what is read of a head, as many bytes as it states and whatever follows
pub again : (extended : Bool) (v : Vlr) (content rest s : List ℕ) → is_evlr v ≡ extended → Typed v → length content ≡ data_length v.record_length_after_header → s ≡ (head_bytes v ++ content) ++ rest
    → (read_of extended s ≡ Ok v) × (extent_of extended s ≡ Ok (length (head_bytes v ++ content))) × (data_of extended s ≡ content)
unfolding vlr_of
again extended v content rest s k w l e =
    let head : length (head_bytes v) ≡ head_size extended = length-head v w.user_id w.description ∙ ap head_size k in
    let same : vlr_of extended s ≡ v = rw (e, append_assoc, ← k) (head_again v (content ++ rest) w) in
    let stated : length_of extended s ≡ v.record_length_after_header = ap (λ (x : Vlr). x.record_length_after_header) same in
    let size : length (head_bytes v ++ content) ≡ length (head_bytes v) + length content = length-append (head_bytes v) content in
    let long : length s ≡ length (head_bytes v ++ content) + length rest = ap length e ∙ length-append (head_bytes v ++ content) rest in
    let n = length (head_bytes v ++ content) in
    let w : Whole extended s n = record { size = rw stated (omega arith); there = omega arith } in
    let r = read_whole extended s n w in (
      r.0 ∙ ap Ok same,
      takes extended s n w,
      r.1 ∙ rw (stated, e, append_assoc, ← head, drop-append_seam, ← l) (take-append_seam content rest),
    )
