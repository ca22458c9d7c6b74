-- "reading everything, changing that one class and writing afresh" (document 02, No. 13): every part is written from what its reader answers, as
-- rewriting does it, but one point with another class.
use Rattle.std.specs.Prelude.{Result, Ok, Err}
use Rattle.point.specs.declared.Point.{Point}
use Rattle.refusal.specs.declared.Refusal.{Refusal}
use Rattle.std.specs.Prelude.{ℕ, zero, suc, ◌-◌, cond, List, [], ◌∷◌, ◌++◌, eqb, take, drop}
use Rattle.format.specs.declared.Format.{Format}
use Rattle.point.specs.Read.{read_of, extra_of}
use Rattle.point.specs.Class.{reclassed}
use Rattle.outline.specs.declared.Outline.{Outline}
use Rattle.file.specs.Points.{point_format}
use Rattle.cursor.specs.declared.Kind.{Kind}
use Rattle.cursor.specs.declared.Part.{Part}
use Rattle.cursor.specs.Parts.{outline_in, parts_of, bytes_of}
use Rattle.cursor.specs.Kept.{is_points}
use Rattle.rewrite.specs.Back.{point_by, point_back, part_back}
use Rattle.rewrite.specs.Pair.{with_pair}

-- the point that is read, with class c, and its extra bytes
abbrev pub read_with : ℕ → Result Point Refusal → Result Point Refusal
read_with c (Ok p) = Ok (reclassed c p)
read_with c (Err r) = Err r

unfoldable pub point_with : Format → ℕ → List ℕ → List ℕ
point_with f c s = point_by f (extra_of f s) (read_with c (read_of f s))

-- k records of m bytes one after the other, the i-th with class c, the first being 1
unfoldable pub points_with : Format → ℕ → ℕ → ℕ → ℕ → List ℕ → List ℕ
points_with f m i c zero s = []
points_with f m i c (suc k) s =
    cond (eqb i 1) (point_with f c (take m s)) (point_back f (take m s)) ++ points_with f m (i - 1) c k (drop m s)

-- what stands for a part, by its kind
unfoldable pub part_with : Outline → ℕ → ℕ → Kind → List ℕ → List ℕ
part_with o i c kind s =
    cond (is_points kind) (points_with (point_format o) o.point_data_record_length i c o.number_of_point_records s) (part_back o kind s)

unfoldable pub parts_with : Outline → ℕ → ℕ → List ℕ → List Part → List ℕ
parts_with o i c s [] = []
parts_with o i c s (p ∷ ps) = part_with o i c p.kind (bytes_of s p) ++ parts_with o i c s ps

-- all of them, "but an EVLR pair with one zero stays as it is"
unfoldable pub afresh_of : ℕ → ℕ → List ℕ → List ℕ
afresh_of i c s = with_pair s (parts_with (outline_in s) i c s (parts_of (outline_in s) s))
