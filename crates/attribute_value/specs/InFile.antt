-- The values of an attribute that was found in a file.
use Rattle.std.specs.Prelude.{ℕ, ◌+◌, ◌*◌, ◌-◌, ◌≤◌, ◌<◌, ◌≡◌, List, length, take, drop}
use Rattle.std.proofs.Common.{ap, sym, ◌∙◌, mul-le-mul_right, suc-mul, arith, length-drop, take-take, drop-drop, length-take-le}
use Rattle.le.specs.Le.{Bytes}
use Rattle.le.specs.Laws.{drop-take}
use Rattle.format.specs.declared.Format.{Format}
use Rattle.format.specs.declared.Field.TheVariants.{ExtraBytes}
use Rattle.format.specs.Fields.{place_of, record_bytes}
use Rattle.format.specs.Laws.{record_sum, record_end}
use Rattle.point.specs.Read.{extra_of}
use Rattle.point.specs.Answer.{extra-whole}
use Rattle.outline.specs.declared.Outline.{Outline}
use Rattle.extents.specs.Extents.{points_end}
use Rattle.file.specs.Points.{point_format, length-fits, format_long}
use Rattle.file.specs.Theorems.{accepted-holds}
use Rattle.cursor.specs.Parts.{outline_in}
use Rattle.attribute.specs.declared.Attribute.{Attribute}
use Rattle.attribute.specs.Attributes.{sizes_of}
use Rattle.attribute.specs.Exact.{descriptors, FoundIn}
use Rattle.attribute_value.specs.Value.{value_at, bytes_of}
use Rattle.attribute_value.specs.Laws.{Lies, so_lies, bytes-at}

-- bytes in a part of a part
inner : (m p e q l z : ℕ) (s : List ℕ) → p + m ≤ e → q + e ≤ l → take m (drop p (take e (drop q (take l (drop z s))))) ≡ take m (drop (z + (q + p)) s)
inner m p e q l z s h g =
    let outer : e ≤ l - q = omega arith in
    let part : m ≤ e - p = omega arith in
    rw (drop-take q l (drop z s), take-take e (l - q) (drop q (drop z s)), drop-take p e (drop q (drop z s)), take-take m (e - p) (drop p (drop q (drop z s))), drop-drop, drop-drop)

-- an attribute of a file that is accepted
module _ (allowance : ℕ) (name s : List ℕ) (bytes : Bytes s) {a : Attribute} (found : FoundIn allowance s name a) where
  abbrev o : Outline
  o = outline_in s

  abbrev f : Format
  f = point_format o

  abbrev place : ℕ
  place = sizes_of found.j (descriptors allowance s found.start found.n)

  long : record_bytes f ≡ o.point_data_record_length
  long = format_long allowance s (accepted-holds allowance s found.vlr.0.1)

  -- the k-th record, counted from 0, ends in the file
  in_points : (k : ℕ) → k < o.number_of_point_records → o.offset_to_point_data + k * o.point_data_record_length + o.point_data_record_length ≤ length s
  in_points k h =
      let l = o.point_data_record_length in
      let within : points_end o ≤ length s = (accepted-holds allowance s found.vlr.0.1).parts.points-within in
      omega (arith, suc-mul k l, mul-le-mul_right l h)

  -- so every point's value lies there
  pub value-lies : (k : ℕ) → k < o.number_of_point_records → Lies a (k + 1) s
  value-lies k h =
      let less : k + 1 - 1 ≡ k = omega arith in
      record {
        least = omega (arith, found.stride, long, record_sum f);
        most = omega (arith, found.stride, length-fits s bytes);
        one = omega arith;
        counted = omega (arith, found.count);
        ends = rw (less, found.stride) (omega (arith, found.place, found.within, in_points k h, long, record_end f));
      }

  -- and is that part of its record's extra bytes
  pub in_extra : (k : ℕ) → k < o.number_of_point_records
      → (let record_k = take o.point_data_record_length (drop (o.offset_to_point_data + k * o.point_data_record_length) s) in
      bytes_of a (k + 1) s ≡ take a.size (drop place (extra_of f record_k)))
  in_extra k h =
      let l = o.point_data_record_length in
      let z = o.offset_to_point_data + k * l in
      let record_k = take l (drop z s) in
      let whole : record_bytes f ≤ length record_k = omega (arith, length-take-le l (drop z s) (rw length-drop (omega (arith, in_points k h))), long) in
      let less : k + 1 - 1 ≡ k = omega arith in
      let at : value_at a (k + 1) ≡ z + (place_of f ExtraBytes + place) = rw (less, found.stride) (omega (arith, found.place)) in
      bytes-at a (k + 1) s (so_lies a (k + 1) s (value-lies k h))
      ∙ ap (λ (i : ℕ). take a.size (drop i s)) at
      ∙ sym (ap (λ (x : List ℕ). take a.size (drop place x)) (extra-whole f record_k (omega (arith, long, length-fits s bytes)) whole) ∙ inner a.size place f.extra_bytes (place_of f ExtraBytes) l z s found.within (omega (arith, long, record_end f)))
