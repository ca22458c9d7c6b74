-- What stands for each part in the rewritten file: "header, VLRs, EVLRs and points are each written from what their reader
-- answers" (document 01). Each definition is the writer's own, of the reader's own.
use Rattle.std.specs.Prelude.{Result, Ok, Err}
use Rattle.point.specs.declared.Point.{Point}
use Rattle.refusal.specs.declared.Refusal.{Refusal}
use Rattle.std.specs.Prelude.{ℕ, zero, suc, Bool, true, false, List, [], ◌++◌, take, drop}
use Rattle.format.specs.declared.Format.{Format}
use Rattle.point.specs.Read as point
use Rattle.point_write.specs.Write.{record_of}
use Rattle.vlr.specs.declared.Vlr as records
use Rattle.vlr.specs.Vlr as vlr
use Rattle.vlr.specs.Vlr.{head_bytes, data_of}
use Rattle.header.specs.Judged as header
use Rattle.header.specs.Judged.{padding_of}
use Rattle.header_write.specs.Bytes.{block}
use Rattle.outline.specs.declared.Outline.{Outline}
use Rattle.file.specs.Points.{point_format}
use Rattle.cursor.specs.declared.Kind.{Kind}
use Rattle.cursor.specs.declared.Kind.TheVariants.{Header, Vlr, Gap, Points, Evlr, Waveform}

-- the header that is read, and its padding
unfoldable pub header_back : List ℕ → List ℕ
header_back s = block (header.header_in s) ++ padding_of s

-- the head that is read of a VLR, or of an EVLR or the waveform packets, and its data
abbrev pub vlr_by : List ℕ → Result records.Vlr Refusal → List ℕ
vlr_by e (Ok v) = head_bytes v ++ e
vlr_by e (Err r) = head_bytes vlr.no_vlr ++ e

unfoldable pub vlr_back : Bool → List ℕ → List ℕ
vlr_back extended s = vlr_by (data_of extended s) (vlr.read_of extended s)

-- the point that is read, and its extra bytes
abbrev pub point_by : Format → List ℕ → Result Point Refusal → List ℕ
point_by f e (Ok p) = record_of f p e
point_by f e (Err r) = []

unfoldable pub point_back : Format → List ℕ → List ℕ
point_back f s = point_by f (point.extra_of f s) (point.read_of f s)

-- records of m bytes, one after the other
unfoldable pub points_back : Format → ℕ → ℕ → List ℕ → List ℕ
points_back f m zero s = []
points_back f m (suc k) s = point_back f (take m s) ++ points_back f m k (drop m s)

-- what stands for a part, by its kind; "gaps, kept in rewriting"
unfoldable pub part_back : Outline → Kind → List ℕ → List ℕ
part_back o Header s = header_back s
part_back o Vlr s = vlr_back false s
part_back o Gap s = s
part_back o Points s = points_back (point_format o) o.point_data_record_length o.number_of_point_records s
part_back o Evlr s = vlr_back true s
part_back o Waveform s = vlr_back true s
