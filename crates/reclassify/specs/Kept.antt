-- What setting the class of one point leaves as it was, and that it is as if all were written afresh.
use Rattle.std.specs.Prelude.{Ok}
use Rattle.std.specs.Prelude.{ℕ, suc, ◌+◌, ◌*◌, ◌-◌, ◌≤◌, ◌<◌, ◌≡◌, refl, Bool, true, false, cond, ◌⊎◌, eqb, length, set, take, drop}
use Rattle.std.proofs.Math.Path.{ap, sym, subst}
use Rattle.std.proofs.Common.{◌∙◌, inl, inr, suc-mul, mul-le-mul_right, arith, eqb-true, length-set, length-drop, length-take-le}
use mathlib.Core.List.{List, [], ◌∷◌, ◌++◌}
use Rattle.std.proofs.lemmas.List.{drop-set-add}
use Rattle.std.proofs.Math.Seq.{take-set-lt}
use Rattle.le.specs.Le.{num, Bytes}
use Rattle.le.specs.Laws.{num-take, bytes_take, bytes_drop}
use Rattle.store.specs.Elsewhere.{Elsewhere, set_elsewhere, same-before, same_behind}
use Rattle.format.specs.declared.Format.{Format}
use Rattle.format.specs.Fields.{len_of}
use Rattle.format.specs.Laws.{len_is}
use Rattle.point.specs.Class.{class_place, classed}
use Rattle.header.specs.declared.Header.{Header}
use Rattle.header.specs.Layout.{VersionMinor, fields_of, size}
use Rattle.header.specs.Header.{number}
use Rattle.header.specs.Judged.{read_of, header_in}
use Rattle.header.specs.Minor.{minor_read}
use Rattle.outline.specs.declared.Outline.{Outline}
use Rattle.outline.specs.Outline.{outline_of}
use Rattle.extents.specs.Extents.{points_end}
use Rattle.file.specs.Rules.{checked_of}
use Rattle.file.specs.Holds.{Holds, standard_in, holds-judged}
use Rattle.file.specs.Points.{point_format, format_extended, format_len}
use Rattle.file.specs.Theorems.{accepted-holds}
use Rattle.file.specs.Kept.{points-judged, points_read, points_header, points-check}
use Rattle.cursor.specs.declared.Part.{Part}
use Rattle.cursor.specs.declared.Kind.TheVariants.{Points}
use Rattle.cursor.specs.Parts.{part, outline_in, parts_of, bytes_of, Each}
use Rattle.cursor.specs.Accepted.{laid}
use Rattle.cursor.specs.Kept.{is_points, Beside, points-parts, beside}
use Rattle.rewrite.specs.Back.{part_back}
use Rattle.rewrite.specs.Rewritten.{back_of}
use Rattle.rewrite.specs.Pair.{pair_of, with_pair}
use Rattle.rewrite.specs.Laws.{no-parts, more_parts, points-part-same}
use Rattle.rewrite.specs.Sound.{but_for_pair}
use Rattle.reclassify.specs.Reclassify.{is_extended, record_at}
use Rattle.reclassify.specs.Afresh.{points_with, part_with, parts_with, afresh_of}
use Rattle.reclassify.specs.Laws.{class_at, Applies}
use Rattle.reclassify.specs.Points.{bytes_with, points_with_lem, place-within, num_later}

module _ (a i c : ℕ) (s : List ℕ) (d : Applies a i c s) where
  abbrev o : Outline
  o = outline_in s

  abbrev f : Format
  f = point_format o

  abbrev each : ℕ
  each = o.point_data_record_length

  abbrev count : ℕ
  count = o.number_of_point_records

  abbrev points : ℕ
  points = o.offset_to_point_data

  -- the file with the class
  abbrev pub after : List ℕ
  after = set s (class_at i s) (classed (is_extended o) c (num 1 (class_at i s) s))

  pub holds : Holds a s
  holds = accepted-holds a s d.accepted

  pub extended : f.is_extended ≡ is_extended o
  extended = format_extended a s holds

  fits : f.is_extended ≡ false → c ≤ 31
  fits old = d.fits (sym extended ∙ old)

  -- the point lies behind n others, and its class in its record
  abbrev before : ℕ
  before = i - 1

  number_is : suc before ≡ i
  number_is = omega (arith, d.some)

  pub fewer : before < count
  fewer = omega (arith, d.some, d.there)

  module _ (bytes : Bytes s) where
    pub whole : len_of f ≡ Ok each
    whole = format_len a s holds bytes

    pub inside : class_place (is_extended o) < each
    inside = subst (λ (e : Bool). class_place e < each) extended (omega (arith, place-within f, len_is f each whole))

    pub ends : before * each + each ≤ count * each
    ends = omega (arith, suc-mul before each, mul-le-mul_right each fewer)

    -- so no byte but one of the points changes
    pub among_points : Elsewhere points (count * each) s after
    among_points = set_elsewhere points (count * each) s (class_at i s) _ (omega arith) (omega (arith, inside, ends))

    pub one_byte : Elsewhere (class_at i s) 1 s after
    one_byte = set_elsewhere (class_at i s) 1 s (class_at i s) _ (omega arith) (omega arith)

    pub same_read : read_of after ≡ read_of s
    same_read = points_read a s after holds among_points

    pub same_header : header_in after ≡ header_in s
    same_header = points_header a s after holds among_points

    pub same_check : checked_of a after ≡ Ok d.found
    same_check = points-check a s after holds among_points d.accepted

    pub same_parts : parts_of (outline_in after) after ≡ parts_of o s
    same_parts = ap (λ (x : Header). parts_of (outline_of x) after) same_header ∙ points-parts o s after (laid a s d.accepted) among_points

    -- every part but the points has its bytes
    beside_same : (p : Part) → (p.start + p.length ≤ points) ⊎ (points_end o ≤ p.start) → bytes_of after p ≡ bytes_of s p
    beside_same p (inl before) = same-before among_points p.start p.length before
    beside_same p (inr behind) = ap (take p.length) (same_behind among_points p.start behind)

    same_bytes : (p : Part) → Beside o p → is_points p.kind ≡ false → bytes_of after p ≡ bytes_of s p
    same_bytes p (inl is) other = let z : ◌≡◌ {A = ℕ} 0 1 = cc in absurd (omega arith)
    same_bytes p (inr (o, where-is)) other = beside_same p where-is

    others_same : (ps : List Part) → Each (Beside o) ps → Each (λ p. is_points p.kind ≡ false → bytes_of after p ≡ bytes_of s p) ps
    others_same [] e = tt
    others_same (p ∷ ps) (h, e) = (same_bytes p h, others_same ps e)

    pub other-parts : Each (λ p. is_points p.kind ≡ false → bytes_of after p ≡ bytes_of s p) (parts_of o s)
    other-parts = others_same (parts_of o s) (beside o s (laid a s d.accepted))

  module _ (bytes : Bytes s) (byte : c < 256) where
    pub after-bytes : Bytes after
    after-bytes = subst (λ (e : Bool). Bytes (set s (class_at i s) (classed e c (num 1 (class_at i s) s)))) extended (bytes_with f c byte fits (class_at i s) s bytes)

    -- the points, as a part
    abbrev all : Part
    all = part Points points (points_end o - points)

    long : (t : List ℕ) → length t ≡ length s → length (bytes_of t all) ≡ count * each
    long t same = length-take-le (points_end o - points) (drop points t) (rw length-drop (omega (arith, holds.parts.points-within))) ∙ omega arith

    bytes-part : (t : List ℕ) → Bytes t → Bytes (bytes_of t all)
    bytes-part t bytes = bytes_take (points_end o - points) (drop points t) (bytes_drop points t bytes)

    points_back_lem : part_back o Points (bytes_of after all) ≡ bytes_of after all
    points_back_lem = points-part-same o (bytes_of after all) (whole bytes, long after (length-set s _ _)) (bytes-part after after-bytes)

    -- with the class of one they are those of the file after
    abbrev file_with : Bool → List ℕ
    file_with e = set s (record_at o i + class_place e) (classed e c (num 1 (record_at o i + class_place e) s))

    set_in_points : points_with f each i c count (bytes_of s all) ≡ bytes_of (file_with f.is_extended) all
    set_in_points =
        let e = f.is_extended in
        let q = before * each + class_place e in
        let size = points_end o - points in
        let in_all : q < size = omega (arith, ends bytes, place-within f, len_is f each (whole bytes)) in
        let at : points + q ≡ record_at o i + class_place e = omega arith in
        let was : num 1 q (bytes_of s all) ≡ num 1 (points + q) s = num-take 1 q (drop points s) size (omega arith) ∙ num_later points q s in
        ap (λ (k : ℕ). points_with f each k c count (bytes_of s all)) (sym number_is)
        ∙ points_with_lem f c byte fits each (whole bytes) count before (bytes_of s all) (long s refl) (bytes-part s bytes) fewer
        ∙ ap (λ (b : ℕ). set (bytes_of s all) q (classed e c b)) was
        ∙ sym (ap (take size) (drop-set-add points s q (classed e c (num 1 (points + q) s))) ∙ take-set-lt size (drop points s) q _ in_all)
        ∙ ap (λ (k : ℕ). bytes_of (set s k (classed e c (num 1 k s))) all) at

    points_are : part_with o i c Points (bytes_of s all) ≡ bytes_of after all
    unfolding part_with
    points_are = set_in_points ∙ ap (λ (e : Bool). bytes_of (file_with e) all) extended

    part_is : (p : Part) → Beside o p → part_with o i c p.kind (bytes_of s p) ≡ part_back o p.kind (bytes_of after p)
    unfolding part_with
    part_is p (inl is) = subst (λ (q : Part). part_with o i c q.kind (bytes_of s q) ≡ part_back o q.kind (bytes_of after q)) (sym is) (points_are ∙ sym points_back_lem)
    part_is p (inr (other, where-is)) = rw other (ap (part_back o p.kind) (sym (beside_same bytes p where-is)))

    parts_are : (ps : List Part) → Each (Beside o) ps → parts_with o i c s ps ≡ back_of o after ps
    unfolding parts_with
    parts_are [] e = sym (no-parts o after)
    parts_are (p ∷ ps) (h, e) = (λ j. part_is p h j ++ parts_are ps e j) ∙ sym (more_parts o after p ps)

    -- the pair stands before the points
    pair_same : (t : List ℕ) → with_pair s t ≡ with_pair after t
    pair_same t =
        let p = holds-judged s holds.header in
        let q = points-judged a s after holds (among_points bytes) ∙ p in
        let minor : number VersionMinor after ≡ number VersionMinor s = sym (minor_read after q) ∙ ap (λ (x : Header). x.version.minor) (same_header bytes) ∙ minor_read s p in
        go (eqb (number VersionMinor s) 4) refl ∙ ap (λ (n : ℕ). cond (eqb n 4) (pair_of after t) t) (sym minor)
      where
        go : (four : Bool) → eqb (number VersionMinor s) 4 ≡ four → cond four (pair_of s t) t ≡ cond four (pair_of after t) t
        go false e = refl
        go true e =
            let large : standard_in s ≡ 375 = ap (λ (k : ℕ). size (fields_of k)) (eqb-true (number VersionMinor s) 4 e) in
            let wide : 247 ≤ points = omega (arith, holds.parts.header-size, holds.parts.offset_after_header) in
            ap (λ (l : List ℕ). take 235 t ++ (l ++ drop 247 t)) (sym (same-before (among_points bytes) 235 12 wide))

    pub afresh : afresh_of i c s ≡ after
    unfolding afresh_of
    afresh =
        let same : back_of o after (parts_of o s) ≡ back_of (outline_in after) after (parts_of (outline_in after) after) =
        sym (λ j. back_of (outline_of (same_header bytes j)) after (same_parts bytes j)) in
        ap (with_pair s) (parts_are (parts_of o s) (beside o s (laid a s d.accepted)) ∙ same) ∙ pair_same (back_of (outline_in after) after (parts_of (outline_in after) after)) ∙ but_for_pair a after (same_check bytes) after-bytes
