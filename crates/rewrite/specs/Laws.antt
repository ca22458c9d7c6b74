-- Of bytes, what stands for a part is the part itself, but for the header's EVLR pair.
use Rattle.std.specs.Prelude.{Ok}
use Rattle.std.specs.Prelude.{ℕ, zero, suc, ◌+◌, ◌*◌, ◌≤◌, ◌≡◌, Bool, ◌⊎◌, replicate}
use Rattle.std.proofs.Math.Path.{refl, ap}
use Rattle.std.proofs.Common.{◌∙◌, suc-mul, zero-mul, arith, length-drop, take-add, length-take-le}
use mathlib.Core.List.{List, [], ◌∷◌, ◌++◌}
use Rattle.std.proofs.Math.ListN.{length, take, drop}
use Rattle.std.proofs.Math.Seq.{take_all, take-length}
use Rattle.le.specs.Le.{Bytes}
use Rattle.le.specs.Laws.{bytes_take, bytes_drop}
use Rattle.format.specs.declared.Format.{Format}
use Rattle.format.specs.Fields.{len_of, record_bytes}
use Rattle.format.specs.Laws.{len_is}
use Rattle.point.specs.Read.{point_of, extra_of}
use Rattle.point.specs.Answer.{answered, whole_read}
use Rattle.point_write.specs.Write.{record_of}
use Rattle.point_write.specs.Theorems.{read_then_written}
use Rattle.vlr.specs.Vlr.{record_size}
use Rattle.vlr.specs.Laws as vlr
use Rattle.vlr.specs.Heads.{record_back}
use Rattle.header.specs.Layout.{VersionMinor, StartOfFirstEvlr, NumberOfEvlrs}
use Rattle.header.specs.Header.{number}
use Rattle.header_write.specs.Back.{Paired}
use Rattle.header_write.specs.Theorems as header
use Rattle.outline.specs.declared.Outline.{Outline}
use Rattle.file.specs.Points.{point_format}
use Rattle.cursor.specs.declared.Part.{Part}
use Rattle.cursor.specs.declared.Kind.TheVariants.{Points}
use Rattle.cursor.specs.Parts.{bytes_of}
use Rattle.rewrite.specs.Back.{header_back, vlr_back, point_by, point_back, points_back, part_back}
use Rattle.rewrite.specs.Rewritten.{back_of}
use Rattle.rewrite.specs.Asked.{HeaderPart, VlrPart, PointPart, PointsPart}

-- records one after the other, and parts
module _ (f : Format) (m : ℕ) (s : List ℕ) where
  pub no-points : points_back f m zero s ≡ []
  unfolding points_back
  no-points = refl

  pub more_points : (k : ℕ) → points_back f m (suc k) s ≡ point_back f (take m s) ++ points_back f m k (drop m s)
  unfolding points_back
  more_points k = refl

module _ (o : Outline) (s : List ℕ) where
  pub no-parts : back_of o s [] ≡ []
  unfolding back_of
  no-parts = refl

  pub more_parts : (p : Part) (ps : List Part) → back_of o s (p ∷ ps) ≡ part_back o p.kind (bytes_of s p) ++ back_of o s ps
  unfolding back_of
  more_parts p ps = refl

-- a whole record is read, and what stands for it is the writer's bytes of that point
module _ (f : Format) (s : List ℕ) (whole : PointPart f s) where
  pub point_same : Bytes s → point_back f s ≡ s
  unfolding point_back
  point_same bytes =
      let size : length s ≡ record_bytes f = len_is f (length s) whole in
      let read = whole_read f s whole in
      let a = answered f s (point_of f s) read in
      ap (point_by f (extra_of f s)) read
      ∙ ap (record_of f (point_of f s)) a.extra
      ∙ read_then_written f s bytes a.room
      ∙ take_all (record_bytes f) s (omega arith)

pub points-same : (f : Format) (m k : ℕ) (s : List ℕ) → len_of f ≡ Ok m → k * m ≤ length s → Bytes s → points_back f m k s ≡ take (k * m) s
unfolding points_back
points-same f m zero s long h bytes = rw zero-mul
points-same f m (suc k) s long h bytes =
    let more : suc k * m ≡ m + k * m = suc-mul k m ∙ omega arith in
    let size : length (take m s) ≡ m = length-take-le m s (omega arith) in
    let first : point_back f (take m s) ≡ take m s = point_same f (take m s) (rw size long) (bytes_take m s bytes) in
    let rest : points_back f m k (drop m s) ≡ take (k * m) (drop m s) = points-same f m k (drop m s) long (simp length-drop (omega arith)) (bytes_drop m s bytes) in
    rw (first, rest, more, take-add)

-- all the points of a part
pub part_same : (f : Format) (m k : ℕ) (s : List ℕ) → PointsPart f m k s → Bytes s → points_back f m k s ≡ s
part_same f m k s whole bytes = points-same f m k s whole.0 (omega (arith, whole.1)) bytes ∙ take_all (k * m) s (omega (arith, whole.1))

pub points-part-same : (o : Outline) (s : List ℕ) → PointsPart (point_format o) o.point_data_record_length o.number_of_point_records s → Bytes s → part_back o Points s ≡ s
unfolding part_back
points-part-same o s whole bytes = part_same (point_format o) o.point_data_record_length o.number_of_point_records s whole bytes

pub vlr_same : (extended : Bool) (s : List ℕ) → VlrPart extended s → Bytes s → vlr_back extended s ≡ s
unfolding vlr_back
vlr_same extended s whole bytes =
    let w = vlr.accepted extended s whole in
    let r = vlr.read_whole extended s (length s) w in
    rw (r.0, r.1) (record_back extended s (length s) bytes w ∙ take-length s)

-- a record that ends in the bytes, cut from them, is whole
pub record_whole : (extended : Bool) (s : List ℕ) → record_size extended s ≤ length s → VlrPart extended (take (record_size extended s) s)
record_whole extended s h = rw (length-take-le (record_size extended s) s h) (vlr.read_cut extended s h)

-- the header, by its EVLR pair
module _ (s : List ℕ) (whole : HeaderPart s) (bytes : Bytes s) where
  pub header_same : (number VersionMinor s ≡ 4 → Paired (number StartOfFirstEvlr s) (number NumberOfEvlrs s)) → header_back s ≡ s
  unfolding header_back
  header_same paired = header.same_bytes s bytes whole.1 paired ∙ take-length s

  pub header_half : number VersionMinor s ≡ 4 → (number StartOfFirstEvlr s ≡ 0) ⊎ (number NumberOfEvlrs s ≡ 0) → header_back s ≡ take 235 s ++ (replicate 12 0 ++ drop 247 s)
  unfolding header_back
  header_half four half =
      header.half_zero s bytes whole.1 four half ∙ ap (λ (l : List ℕ). take 235 l ++ (replicate 12 0 ++ drop 247 l)) (take-length s)
