-- Changes that the file check does not see: of the points' bytes; and in a file without later records of the bytes behind its points, and of how
-- many its points are.
use Rattle.std.specs.Prelude.{Ok}
use Rattle.header.specs.Whole.{whole_of}
use Rattle.std.specs.Prelude.{ℕ, zero, suc, ◌+◌, ◌*◌, ◌-◌, ◌≤◌, ◌<◌, ◌≡◌, refl, true, false, List, length, take, drop}
use Rattle.std.proofs.Common.{sym, subst, ◌∙◌, arith}
use Rattle.std.proofs.Math.Path.{ap}
use Rattle.store.specs.Elsewhere.{Elsewhere, same-before, same_behind}
use Rattle.header.specs.declared.Header.{Header}
use Rattle.header.specs.Layout.{VersionMinor, HeaderSize}
use Rattle.header.specs.Header.{number}
use Rattle.header.specs.Judged.{judged, read_of, header_in}
use Rattle.header.specs.Window.{part-take}
use Rattle.header.specs.Laws.{agreed}
use Rattle.header.specs.Answers.{size_read, header_same, padded_field}
use Rattle.header.specs.Minor.{minor_read}
use Rattle.header.specs.Theorems.{same_header}
use Rattle.outline.specs.declared.Outline.{Outline}
use Rattle.outline.specs.Outline.{outline_of, counting, header_size_is}
use Rattle.rules.specs.Records.{Run}
use Rattle.extents.specs.Extents.{points_end, vlr_bytes, records_of}
use Rattle.file.specs.Rules.{checked_of}
use Rattle.file.specs.Holds.{standard_in, PartsHold, Holds, judged-holds, holds-judged}
use Rattle.file.specs.Points.{point_format}
use Rattle.file.specs.Theorems.{accepted}

-- a part of what is the same is the same
pub same-part : (k : ℕ) (s t : List ℕ) → take k t ≡ take k s → (n at : ℕ) → at + n ≤ k → take n (drop at t) ≡ take n (drop at s)
same-part k s t same n at inside =
    sym (part-take k t n at inside) ∙ ap (λ (l : List ℕ). take n (drop at l)) same ∙ part-take k s n at inside

-- where t has the first k bytes of s, the header with its padding among them, its header is the same
module _ (a : ℕ) (s t : List ℕ) (h : Holds a s) (k : ℕ) (past : (outline_of (header_in s)).header_size ≤ k) (same : take k t ≡ take k s) where
  abbrev size : ℕ
  size = (outline_of (header_in s)).header_size

  whole : judged s ≡ Ok (whole_of (standard_in s) size)
  whole =
      let p = holds-judged s h.header in
      let field : size ≡ number HeaderSize s = header_size_is (header_in s) ∙ size_read s p in
      p ∙ ap (λ (e : ℕ). Ok (whole_of (standard_in s) e)) (padded_field (standard_in s) (number HeaderSize s) (omega (arith, h.parts.header-size)) ∙ sym field)

  padded : take size s ≡ take size t
  padded = sym (same-part k s t same size 0 (omega arith))

  pub front-judged : judged t ≡ judged s
  front-judged = agreed s t whole padded ∙ sym whole

  pub front_read : read_of t ≡ read_of s
  front_read = same_header s t whole padded

module _ (a : ℕ) (s t : List ℕ) (h : Holds a s) (none : (outline_of (header_in s)).number_of_later_records ≡ 0) (long : length t ≡ length s) where
  abbrev o : Outline
  o = outline_of (header_in s)

  -- where t has the same header but for the number of points, which end in it, and the same bytes before them, it is accepted too
  module _ (m : ℕ) (judges : judged t ≡ judged s) (minor : (header_in t).version.minor ≡ (header_in s).version.minor) (outline : outline_of (header_in t) ≡ counting m o) (vlrs : vlr_bytes o t ≡ vlr_bytes o s) (room : points_end (counting m o) ≤ length s) where
    parts_with_lem : PartsHold (standard_in s) (number VersionMinor s) a (counting m o) t
    parts_with_lem =
        let p = h.parts in
        record {
          header-size = p.header-size;
          format = p.format;
          format_for_version = p.format_for_version;
          record_length_lem = p.record_length_lem;
          offset_after_header = p.offset_after_header;
          offset_within = omega (arith, p.offset_within);
          allowed = p.allowed;
          vlrs_whole = rw vlrs p.vlrs_whole;
          points-within = omega arith;
          later_start_lem = λ some. absurd (omega arith);
          later_whole = rw none tt;
        }

    pub holds_with : Holds a t
    holds_with =
        let p = holds-judged s h.header in
        let q = judges ∙ p in
        let minors : number VersionMinor t ≡ number VersionMinor s = sym (minor_read t q) ∙ minor ∙ minor_read s p in
        record { header = (judged-holds t q).0; parts = rw (minors, outline) parts_with_lem }

    -- with as many records
    pub accepted_with : {n : ℕ} → checked_of a s ≡ Ok n → checked_of a t ≡ Ok n
    unfolding records_of
    accepted_with e = (accepted a t).1 (holds_with, ((accepted a s).0 e).1 ∙ ap records_of (sym outline))

  -- where t has the bytes of s up to the end of the points, its header is the same, and so is the answer
  module _ (same : take (points_end o) t ≡ take (points_end o) s) where
    past : o.header_size ≤ points_end o
    past = omega (arith, h.parts.offset_after_header)

    pub same-judged : judged t ≡ judged s
    same-judged = front-judged a s t h (points_end o) past same

    pub same_read : read_of t ≡ read_of s
    same_read = front_read a s t h (points_end o) past same

    pub same_header_in : header_in t ≡ header_in s
    same_header_in = header_same s t same_read

    pub same_check : {n : ℕ} → checked_of a s ≡ Ok n → checked_of a t ≡ Ok n
    same_check =
        accepted_with o.number_of_point_records same-judged (ap (λ (x : Header). x.version.minor) same_header_in)
        (ap outline_of same_header_in)
        (same-part (points_end o) s t same (o.offset_to_point_data - o.header_size) o.header_size (omega (arith, h.parts.offset_after_header)))
        h.parts.points-within

-- where t has the bytes of s before the points and behind them, whatever the points are, its header is the same, and so is the answer
module _ (a : ℕ) (s t : List ℕ) (h : Holds a s) (e : Elsewhere (outline_of (header_in s)).offset_to_point_data ((outline_of (header_in s)).number_of_point_records * (outline_of (header_in s)).point_data_record_length) s t) where
  abbrev u : Outline
  u = outline_of (header_in s)

  pub points-judged : judged t ≡ judged s
  points-judged = front-judged a s t h u.offset_to_point_data h.parts.offset_after_header e.front

  pub points_read : read_of t ≡ read_of s
  points_read = front_read a s t h u.offset_to_point_data h.parts.offset_after_header e.front

  pub points_header : header_in t ≡ header_in s
  points_header = header_same s t points_read

  -- the later records, where there are any, lie behind the points
  run-same : (k : ℕ) → (0 < k → points_end u ≤ u.start_of_later_records) → Run true k (drop u.start_of_later_records s) → Run true k (drop u.start_of_later_records t)
  run-same zero behind run = tt
  run-same (suc k) behind run = subst (Run true (suc k)) (sym (same_behind e u.start_of_later_records (behind (omega arith)))) run

  parts_same : PartsHold (standard_in s) (number VersionMinor s) a u t
  parts_same =
      let p = h.parts in
      record {
        header-size = p.header-size;
        format = p.format;
        format_for_version = p.format_for_version;
        record_length_lem = p.record_length_lem;
        offset_after_header = p.offset_after_header;
        offset_within = omega (arith, p.offset_within, e.long);
        allowed = p.allowed;
        vlrs_whole = subst (Run false u.number_of_variable_length_records) (sym (same-before e u.header_size (u.offset_to_point_data - u.header_size) (omega (arith, p.offset_after_header)))) p.vlrs_whole;
        points-within = omega (arith, p.points-within, e.long);
        later_start_lem = λ some. ((p.later_start_lem some).0, omega (arith, (p.later_start_lem some).1, e.long));
        later_whole = run-same u.number_of_later_records (λ some. (p.later_start_lem some).0) p.later_whole;
      }

  pub points-holds : Holds a t
  points-holds =
      let p = holds-judged s h.header in
      let q = points-judged ∙ p in
      let minors : number VersionMinor t ≡ number VersionMinor s = sym (minor_read t q) ∙ ap (λ (x : Header). x.version.minor) points_header ∙ minor_read s p in
      record { header = (judged-holds t q).0; parts = rw (minors, points_header) parts_same }

  pub points-check : {n : ℕ} → checked_of a s ≡ Ok n → checked_of a t ≡ Ok n
  points-check p = (accepted a t).1 (points-holds, ((accepted a s).0 p).1 ∙ ap (λ (x : Header). records_of (outline_of x)) (sym points_header))

-- another number of points does not change their format
pub counting_format : (m : ℕ) (o : Outline) → point_format (counting m o) ≡ point_format o
unfolding point_format
counting_format m o = refl
